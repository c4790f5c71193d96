-- Bytes that are put part by part, of which it is said what they may be, of what nests no deeper than a text may.
use Rattle.std.proofs.Common.{◌≡◌, ℕ, ◌+◌, ◌*◌, ◌≤◌, max, List, [], ◌++◌, Option, sym, subst, append_assoc, append-nil, arith}
use Rattle.pb_output.specs.declared.sink.Sink.{Sink}
use Rattle.pb_output.specs.Sink.{Puts}
use Rattle.pb_output.proofs.SinkLemmas.{puts_none, puts_then}
use Rattle.pb_listing.specs.Putting.{PutsSome}

-- a prefix of a whole is put, and it is known what may follow; what is left is at a level, with a number of levels of messages below
pub record IsBegun {D : Type 0} (written : D → Option (List ℕ)) (failures : D → ℕ) (old new : D) (a b : Sink) (level below : ℕ) (IsRest IsWhole : List ℕ → Type 0) : Type 0 where
  pub within : level + 2 * below ≤ 202
  pub prefix : List ℕ
  pub joins : (rest : List ℕ) → IsRest rest → IsWhole (prefix ++ rest)
  pub put : Puts written failures old new a b prefix

module _ {D : Type 0} {written : D → Option (List ℕ)} {failures : D → ℕ} where
  pub begun_start : {d : D} {a : Sink} (level below : ℕ) (IsWhole : List ℕ → Type 0) → level + 2 * below ≤ 202 → IsBegun written failures d d a a level below IsWhole IsWhole
  begun_start level below IsWhole within = record { within = within; prefix = []; joins = λ rest h. h; put = puts_none }

  -- the same where an iterator has all of it left
  pub begun_start_at :
      {X : Type 0} {d : D} {a : Sink} (level : ℕ) (below : X → ℕ) (IsMeant : X → List ℕ → Type 0) (left whole : X) → left ≡ whole → level + 2 * below whole ≤ 202
      → IsBegun written failures d d a a level (below left) (IsMeant left) (IsMeant whole)
  begun_start_at {X} {d} {a} level below IsMeant left whole e within =
      subst (λ (x : X). IsBegun written failures d d a a level (below x) (IsMeant x) (IsMeant whole)) (sym e) (begun_start level (below whole) (IsMeant whole) within)

  -- a part is put
  pub begun_more :
      {d0 d1 d2 : D} {a b c : Sink} {level below : ℕ} {IsRest IsWhole : List ℕ → Type 0} (part_below rest_below : ℕ) (IsPart IsAfter : List ℕ → Type 0)
      → IsBegun written failures d0 d1 a b level below IsRest IsWhole → below ≡ max part_below rest_below
      → ((part after : List ℕ) → IsPart part → IsAfter after → IsRest (part ++ after))
      → (level + 2 * part_below ≤ 202 → PutsSome written failures d1 d2 b c IsPart) → IsBegun written failures d0 d2 a c level rest_below IsAfter IsWhole
  begun_more {level = level} {IsWhole = IsWhole} part_below rest_below IsPart IsAfter h deep joins put =
      let within = h.within in
      let p = put (omega (arith, within, deep)) in record {
        within = omega (arith, within, deep);
        prefix = h.prefix ++ p.0;
        joins = λ after is. subst IsWhole (sym (append_assoc h.prefix p.0 after)) (h.joins (p.0 ++ after) (joins p.0 after p.1 is));
        put = puts_then h.put p.2;
      }

  -- nothing is put
  pub begun_same :
      {d0 d1 : D} {a b : Sink} {level below : ℕ} {IsRest IsWhole : List ℕ → Type 0} (part_below rest_below : ℕ) (IsAfter : List ℕ → Type 0)
      → IsBegun written failures d0 d1 a b level below IsRest IsWhole → below ≡ max part_below rest_below
      → ((after : List ℕ) → IsAfter after → IsRest after) → IsBegun written failures d0 d1 a b level rest_below IsAfter IsWhole
  begun_same {level = level} part_below rest_below IsAfter h deep joins =
      let within = h.within in record {
        within = omega (arith, within, deep);
        prefix = h.prefix;
        joins = λ after is. h.joins after (joins after is);
        put = h.put;
      }

  -- nothing is left
  pub begun_end :
      {d0 d1 : D} {a b : Sink} {level below : ℕ} {IsRest IsWhole : List ℕ → Type 0} → IsBegun written failures d0 d1 a b level below IsRest IsWhole
      → IsRest [] → PutsSome written failures d0 d1 a b IsWhole
  begun_end {d0} {d1} {a} {b} h none =
      (h.prefix ++ [], h.joins [] none, subst (Puts written failures d0 d1 a b) (sym (append-nil h.prefix)) h.put)
