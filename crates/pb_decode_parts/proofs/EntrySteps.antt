-- A whole record of a map entry, and the message of its value.
use Rattle.std.proofs.Common.{◌≡◌, ℕ, List, [], ◌∷◌, ◌++◌, length, refl, sym, ap, ◌∙◌, subst, Option, Some, None}
use Rattle.std.specs.Prelude.{true, false, IsTrue}
use Rattle.std.proofs.lemmas.List.{append-nil}
use Rattle.pb_wire.specs.Record.{Payload, Record, wire_type}
use Rattle.pb_wire.specs.Inside.{records_inside}
use Rattle.pb_wire.specs.Fault.{Place, step, HasTag, HasLength}
use Rattle.pb_wire.specs.Schema.{records, context_of, same_level}
use Rattle.pb_wire.specs.Grammar.{payload_at}
use Rattle.pb_schema.specs.declared.types.Kind.{Kind}
use Rattle.pb_schema.specs.declared.types.Kind.TheVariants as kind
use Rattle.pb_schema.specs.declared.types.MessageId.{MessageId}
use Rattle.pb_schema.specs.Types.{Types}
use Rattle.pb_schema.specs.Rules.{IsPool, NamesType}
use Rattle.pb_schema.specs.Scalar.{Scalar}
use Rattle.pb_schema.specs.Kinds.{message_of_kind, is_key_kind}
use Rattle.pb_schema.specs.Packed.{elements}
use Rattle.pb_schema.specs.Fits.{fits, fitting}
use Rattle.pb_schema.specs.Context.{Context, a_message as in_message, an_entry, key_field, value_field, schema_of}
use Rattle.pb_value.specs.Data.{Datum, scalar, message, Message, empty}
use Rattle.pb_value.specs.Value.{last_of, all_elements, joined, one_value, value_within}
use Rattle.pb_value.proofs.StepLemmas.{filter-passes, filter-fails, last_of-snoc}
use Rattle.pb_value.proofs.ShapeSteps.{all_elements-snoc, one_value-one, one_value-message}
use Rattle.pb_value.proofs.MessageSteps.{value_of_nothing}
use Rattle.pb_decode_parts.specs.declared.open.part.Slot.TheVariants as slot
use Rattle.pb_decode_parts.specs.Open.Opened as opened
use Rattle.pb_decode_parts.specs.Open.Opened.{Begun}
use Rattle.pb_decode_parts.specs.Open.Parents.{message_part, entry_part, group_part, Parent, Completes, inside, Reached, Scope, one_more_in}
use Rattle.pb_decode_parts.proofs.OpenedLemmas.{RecordTo, so_far_nothing}
use Rattle.pb_decode_parts.proofs.StepCounts.{counts_of_none}
use Rattle.pb_decode_parts.proofs.WellLemmas.{kinds_in_pool, entry_value_good}
use Rattle.pb_decode_parts.proofs.OpenLemmas.{payload_scope}
use Rattle.pb_decode_parts.proofs.ParentLemmas.{one_more, held_as_well}

-- the message that an entry has so far
abbrev pub entry_message : Option Datum → Message
entry_message (Some (message w)) = w
entry_message _ = empty

last_key : (key : Kind) (cs : List Record) (r : Record) (x : Scalar) → elements key r.payload ≡ x ∷ [] → last_of (all_elements key (cs ++ r ∷ [])) ≡ Some x
last_key key cs r x e = ap last_of (all_elements-snoc key cs r ∙ ap (λ (y : List Scalar). all_elements key cs ++ y) e) ∙ last_of-snoc (all_elements key cs) x

module _ {pool : Types} {m depth levels : ℕ} {base : List Record} {p0 : Place} {parents : List Parent} {scope : Scope} {q : Place} (key kd : Kind) (x : Option Scalar) (d : Option Datum)
    (s : Reached pool m depth levels base p0 parents (entry_part key kd x d) scope q) where
  rs : List Record
  rs = s.earlier ++ s.records_so_far

  pub key_reached : {u : Place} (r : Record) → RecordTo (schema_of pool) (context_of s.open_now) scope.depth_left q r u → (y : Scalar) → fits (key_field key) r ≡ true → fits (value_field kd) r ≡ false → elements key r.payload ≡ y ∷ []
      → Reached pool m depth levels base p0 parents (entry_part key kd (Some y) d) (one_more_in r.number scope) u
  key_reached r h y own other is = one_more s r (entry_part key kd (Some y) d) h (refl, refl) (
    sym (ap (λ (z : List Record). last_of (all_elements key z)) (filter-passes (fits (key_field key)) (s.earlier ++ s.records_so_far) r own) ∙ last_key key (fitting (key_field key) (s.earlier ++ s.records_so_far)) r y is),
    s.worth.1 ∙ ap (one_value (value_within pool s.inner) kd) (sym (filter-fails (fits (value_field kd)) (s.earlier ++ s.records_so_far) r other)),
  )

  pub value_reached : {u : Place} (r : Record) → RecordTo (schema_of pool) (context_of s.open_now) scope.depth_left q r u → (y : Scalar) → fits (key_field key) r ≡ false → fits (value_field kd) r ≡ true → message_of_kind kd ≡ None → elements kd r.payload ≡ y ∷ []
      → Reached pool m depth levels base p0 parents (entry_part key kd x (Some (scalar y))) (one_more_in r.number scope) u
  value_reached r h y other own none is = one_more s r (entry_part key kd x (Some (scalar y))) h (refl, refl) (
    s.worth.0 ∙ ap (λ (z : List Record). last_of (all_elements key z)) (sym (filter-fails (fits (key_field key)) (s.earlier ++ s.records_so_far) r other)),
    sym (ap (one_value (value_within pool s.inner) kd) (filter-passes (fits (value_field kd)) (s.earlier ++ s.records_so_far) r own) ∙ one_value-one (value_within pool s.inner) kd (fitting (value_field kd) (s.earlier ++ s.records_so_far)) r y none is),
  )

  pub dropped_reached : {u : Place} (r : Record) → RecordTo (schema_of pool) (context_of s.open_now) scope.depth_left q r u → fits (key_field key) r ≡ false → fits (value_field kd) r ≡ false → Reached pool m depth levels base p0 parents (entry_part key kd x d) (one_more_in r.number scope) u
  dropped_reached r h a b = one_more s r (entry_part key kd x d) h (refl, refl) (
    s.worth.0 ∙ ap (λ (z : List Record). last_of (all_elements key z)) (sym (filter-fails (fits (key_field key)) (s.earlier ++ s.records_so_far) r a)),
    s.worth.1 ∙ ap (one_value (value_within pool s.inner) kd) (sym (filter-fails (fits (value_field kd)) (s.earlier ++ s.records_so_far) r b)),
  )

  -- the message of an entry goes on from what the entry has
  pub opens_entry_message :
      {r t : Place} (j : MessageId) (n : ℕ) (counts : ℕ → ℕ) → IsPool pool → ((i : ℕ) → counts i ≡ 0) → kd ≡ kind.Message j → HasTag q 2 2 r → HasLength r n t → (schema_of pool).reading (an_entry key kd) 2 ≡ same_level (in_message j.0)
      → ((p : Payload) → wire_type p ≡ 2 → (fits (key_field key) (record { number = 2; payload = p }) ≡ false) × (fits (value_field kd) (record { number = 2; payload = p }) ≡ true))
      → Reached pool m depth levels base p0 (record { part = entry_part key kd x None; number = 2; slot = slot.Entry; group = false; scope = scope } ∷ parents) (message_part j.0 (entry_message d)) (payload_scope scope.depth_left t n counts) (payload_at t n)
  opens_entry_message {r} {t} j n counts ok none is tag l reading fitted = record {
    open_now = records (in_message j.0);
    inner = s.inner;
    path = s.path ++ step 2 s.records_so_far ∷ [];
    begin = payload_at t n;
    earlier = joined cs;
    records_so_far = [];
    held = inside (held_as_well (entry_part key kd x None) (refl, refl) s.held) s.so_far begun s.form kinds.0 s.deep completes refl s.counted s.ends (let inner = entry_value_good ok key kd x d s j is in (subst (NamesType (length pool.messages) (length pool.enums)) is kinds.1, inner.0, inner.1)) (tt, refl);
    form = refl;
    deep = s.deep;
    so_far = so_far_nothing (payload_at t n);
    counted = counts_of_none counts none;
    ends = (n, refl, refl);
    bytes = s.bytes;
    worth = ap entry_message (s.worth.1 ∙ ap (λ (z : Kind). one_value (value_within pool s.inner) z cs) is) ∙ so_far cs ∙ ap (value_within pool s.inner j.0) (sym (append-nil (joined cs)));
  }
    where
      kinds : IsTrue (is_key_kind key) × NamesType (length pool.messages) (length pool.enums) kd
      kinds = kinds_in_pool key kd x d s

      cs : List Record
      cs = fitting (value_field kd) (s.earlier ++ s.records_so_far)

      so_far : (cs : List Record) → entry_message (one_value (value_within pool s.inner) (kind.Message j) cs) ≡ value_within pool s.inner j.0 (joined cs)
      so_far [] = sym (value_of_nothing pool s.inner j.0)
      so_far (c ∷ cs) = refl

      begun : Begun (schema_of pool) s.open_now scope.depth_left 2 q (records (in_message j.0)) scope.depth_left (payload_at t n)
      begun = opened.a_value refl tag (subst (λ (c : Context). (schema_of pool).reading c 2 ≡ same_level (in_message j.0)) (sym s.form) reading) l refl refl

      completes : Completes pool s.inner s.inner (record { part = entry_part key kd x None; number = 2; slot = slot.Entry; group = false; scope = scope }) (s.earlier ++ s.records_so_far) (message_part j.0 (entry_message d)) (joined cs)
      completes p (message_part o w) type form worth =
          let fit = fitted p type in
          let r2 : Record = record { number = 2; payload = p } in (
            s.worth.0 ∙ ap (λ (z : List Record). last_of (all_elements key z)) (sym (filter-fails (fits (key_field key)) (s.earlier ++ s.records_so_far) r2 fit.0)),
            ap (λ (z : Message). Some (message z)) (worth ∙ ap (λ (z : ℕ). value_within pool s.inner z (joined cs ++ records_inside p)) (sym form))
                ∙ sym (ap (one_value (value_within pool s.inner) kd) (filter-passes (fits (value_field kd)) (s.earlier ++ s.records_so_far) r2 fit.1)
                ∙ ap (λ (z : Kind). one_value (value_within pool s.inner) z (cs ++ r2 ∷ [])) is
                ∙ one_value-message (value_within pool s.inner) (kind.Message j) j.0 cs r2 refl),
          )
      completes p (entry_part a b c e) type form worth = absurd form
      completes p (group_part us) type form worth = absurd form
