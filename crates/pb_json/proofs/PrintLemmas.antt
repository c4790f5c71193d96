-- Bytes that are put part by part, of which it is said what they may be.
use Rattle.std.proofs.Common.{◌≡◌, ℕ, List, [], ◌++◌, Result, Ok, Err, IfErr, Option, Some, refl, sym, ap, ◌∙◌, subst, append_assoc}
use Rattle.std.specs.Option.{option_map_or}
use Rattle.pb_output.specs.declared.sink.Sink.{Sink}
use Rattle.pb_output.specs.Sink.{Puts}
use Rattle.pb_output.proofs.SinkLemmas.{puts_none, puts_then}
use Rattle.pb_json.specs.declared.form.Layout.{Layout}
use Rattle.pb_json.specs.Json.{Json}
use Rattle.pb_json.specs.JsonText.{IsJsonText}
use Rattle.pb_json.specs.Answers.{FailsAs, Prints, RefusedAs, RefusesWith}
use Rattle.pb_json.specs.Refusals.{refused}
use Rattle.pb_json.specs.declared.error.JsonError.{JsonError}
use Rattle.pb_json.specs.declared.error.JsonError.TheVariants as error
use Rattle.pb_json.specs.declared.form.JsonForm.{JsonForm}
use Rattle.pb_value.specs.Dynamic.{Dynamic}

-- A prefix of a whole is put, and it is known what may follow.
pub record IsLeft {D : Type 0} (written : D → Option (List ℕ)) (failures : D → ℕ) (old new : D) (a b : Sink) (IsRest IsWhole : List ℕ → Type 0) : Type 0 where
  pub prefix : List ℕ
  pub joins : (rest : List ℕ) → IsRest rest → IsWhole (prefix ++ rest)
  pub put : Puts written failures old new a b prefix

-- bytes that begin so, and then are meant
abbrev pub Begins : List ℕ → (List ℕ → Type 0) → List ℕ → Type 0
Begins start IsMeant s = (rest : List ℕ) × (s ≡ start ++ rest) × IsMeant rest

module _ {D : Type 0} {written : D → Option (List ℕ)} {failures : D → ℕ} where
  -- bytes that are known
  pub prints_known : {d0 d1 : D} {a b : Sink} {s : List ℕ} (IsMeant : List ℕ → Type 0) → IsMeant s → Puts written failures d0 d1 a b s → Prints written failures d0 d1 a b IsMeant
  prints_known {s = s} IsMeant is put = record { bytes = s; is = is; puts = put }

  -- what is meant otherwise
  pub prints_as : {d0 d1 : D} {a b : Sink} (IsMeant IsOther : List ℕ → Type 0) → ((s : List ℕ) → IsMeant s → IsOther s) → Prints written failures d0 d1 a b IsMeant
      → Prints written failures d0 d1 a b IsOther
  prints_as IsMeant IsOther f p = record { bytes = p.bytes; is = f p.bytes p.is; puts = p.puts }

  -- the same value
  pub prints_same : {d0 d1 : D} {a b : Sink} (layout : Layout) (indent : ℕ) (j k : Json) → k ≡ j → Prints written failures d0 d1 a b (IsJsonText layout indent j)
      → Prints written failures d0 d1 a b (IsJsonText layout indent k)
  prints_same {d0} {d1} {a} {b} layout indent j k e p = subst (λ (x : Json). Prints written failures d0 d1 a b (IsJsonText layout indent x)) (sym e) p

  -- nothing before others
  pub prints_after_nothing : {d0 d1 d2 : D} {a b c : Sink} {IsMeant : List ℕ → Type 0} → Puts written failures d0 d1 a b [] → Prints written failures d1 d2 b c IsMeant
      → Prints written failures d0 d2 a c IsMeant
  prints_after_nothing nothing p = record { bytes = p.bytes; is = p.is; puts = puts_then nothing p.puts }

  -- known bytes before others
  pub prints_after : {d0 d1 d2 : D} {a b c : Sink} {start : List ℕ} (IsMeant : List ℕ → Type 0) → Puts written failures d0 d1 a b start → Prints written failures d1 d2 b c IsMeant
      → Prints written failures d0 d2 a c (Begins start IsMeant)
  prints_after {start = start} IsMeant first p = record { bytes = start ++ p.bytes; is = (p.bytes, refl, p.is); puts = puts_then first p.puts }

  -- nothing but the start is put
  pub left_start : {d0 d1 : D} {a b : Sink} {start : List ℕ} (IsRest : List ℕ → Type 0) → Puts written failures d0 d1 a b start
      → IsLeft written failures d0 d1 a b IsRest (Begins start IsRest)
  left_start {start = start} IsRest put = record { prefix = start; joins = λ rest h. (rest, refl, h); put = put }

  -- the same where an iterator has all of it left
  pub left_start_at : {X : Type 0} {d0 d1 : D} {a b : Sink} {start : List ℕ} (IsRest : X → List ℕ → Type 0) (left whole : X) → left ≡ whole
      → Puts written failures d0 d1 a b start → IsLeft written failures d0 d1 a b (IsRest left) (Begins start (IsRest whole))
  left_start_at {X} {d0} {d1} {a} {b} {start} IsRest left whole e put =
      subst (λ (x : X). IsLeft written failures d0 d1 a b (IsRest x) (Begins start (IsRest whole))) (sym e) (left_start (IsRest whole) put)

  -- all of it is left, of a sink and an output where nothing is put yet
  pub left_all : {X : Type 0} {d : D} {a : Sink} (IsRest : X → List ℕ → Type 0) (left whole : X) → left ≡ whole
      → IsLeft written failures d d a a (IsRest left) (IsRest whole)
  left_all {X} {d} {a} IsRest left whole e =
      subst (λ (x : X). IsLeft written failures d d a a (IsRest x) (IsRest whole)) (sym e)
      (record { prefix = []; joins = λ rest h. h; put = puts_none })

  -- a part is put
  pub left_more :
      {d0 d1 d2 : D} {a b c : Sink} {IsRest IsWhole : List ℕ → Type 0} (IsPart IsAfter : List ℕ → Type 0)
      → IsLeft written failures d0 d1 a b IsRest IsWhole
      → ((part after : List ℕ) → IsPart part → IsAfter after → IsRest (part ++ after))
      → Prints written failures d1 d2 b c IsPart → IsLeft written failures d0 d2 a c IsAfter IsWhole
  left_more {IsWhole = IsWhole} IsPart IsAfter h joins p = record {
    prefix = h.prefix ++ p.bytes;
    joins = λ after is. subst IsWhole (sym (append_assoc h.prefix p.bytes after)) (h.joins (p.bytes ++ after) (joins p.bytes after p.is is));
    put = puts_then h.put p.puts;
  }

  -- nothing is put
  pub left_same :
      {d0 d1 : D} {a b : Sink} {IsRest IsWhole : List ℕ → Type 0} (IsAfter : List ℕ → Type 0)
      → IsLeft written failures d0 d1 a b IsRest IsWhole
      → ((after : List ℕ) → IsAfter after → IsRest after) → IsLeft written failures d0 d1 a b IsAfter IsWhole
  left_same IsAfter h joins = record { prefix = h.prefix; joins = λ after is. h.joins after (joins after is); put = h.put }

  -- the rest is put
  pub left_done :
      {d0 d1 d2 : D} {a b c : Sink} {IsRest IsWhole : List ℕ → Type 0} {rest : List ℕ} → IsLeft written failures d0 d1 a b IsRest IsWhole
      → IsRest rest → Puts written failures d1 d2 b c rest → Prints written failures d0 d2 a c IsWhole
  left_done {rest = rest} h is put = record { bytes = h.prefix ++ rest; is = h.joins rest is; puts = puts_then h.put put }

-- what went out to a device that held nothing
pub written_whole : (old new bytes : List ℕ) → Some old ≡ Some [] → new ≡ old ++ bytes → new ≡ bytes
written_whole old new bytes empty grown = grown ∙ ap (λ (o : Option (List ℕ)). option_map_or (λ l. l) o [] ++ bytes) empty

-- a fact that does not ask for an error
pub always_err : {T E P : Type 0} (r : Result T E) → P → IfErr r (λ _. P)
always_err (Ok x) h = tt
always_err (Err e) h = h

-- WHAT IS REFUSED

pub refuses_as : (m : Dynamic) (e : JsonError) → RefusesWith m.pool (refused m) e → RefusedAs m e
refuses_as m (error.Refused x) h = h
refuses_as m error.Memory h = h
refuses_as m error.Output h = h

-- nothing went out
pub refused_fails : {D : Type 0} (written : D → Option (List ℕ)) (failures : D → ℕ) (old new : D) (form : JsonForm) (m : Dynamic) (e : JsonError) → RefusedAs m e → new ≡ old
    → FailsAs written failures old new form m e
refused_fails written failures old new form m (error.Refused x) h same = (h, same)
refused_fails written failures old new form m error.Memory h same = (h, same)
refused_fails written failures old new form m error.Output h same = absurd h
