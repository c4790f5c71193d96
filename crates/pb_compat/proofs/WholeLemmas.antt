-- What the new type reads of the canonical records of a message of any depth.
use Rattle.std.proofs.Common.{◌≡◌, ℕ, zero, suc, ◌+◌, ◌<◌, ◌≤◌, List, ◌++◌, true, false, Option, Some, sym, ◌∙◌, ap, subst, arith, append-nil}
use Rattle.std.specs.Prelude.{option_and_then}
use Rattle.pb_wire.specs.Record.{Record}
use Rattle.pb_schema.specs.Types.{FieldView, Types, message_fields, field_numbered}
use Rattle.pb_schema.specs.Kinds.{message_of_kind}
use Rattle.pb_schema.specs.Closed.{known, unknown}
use Rattle.pb_schema.specs.Rules.{IsPool}
use Rattle.pb_value.specs.Data.{Fields, no_fields, field, Message, body, fields_depth, message_depth}
use Rattle.pb_value.specs.Value.{fields_held, value_within, value}
use Rattle.pb_value.specs.Canon.{canon, canon_fields}
use Rattle.pb_value.specs.WellFormed.{IsOfShape, IsHeld, holds_declared, AreFields, IsBody}
use Rattle.pb_value.proofs.FieldBack.{numbered_at}
use Rattle.pb_value.proofs.BodyBack.{can_pack}
use Rattle.pb_value.proofs.Options.{some_of}
use Rattle.pb_compat.specs.Oneofs.{is_crowded}
use Rattle.pb_compat.specs.Fields.{is_in_crowd}
use Rattle.pb_compat.specs.Pairs.{pair_of, message_at, ReachedIn, begun_in, further_in}
use Rattle.pb_compat.specs.Agrees.{NoneBreaks}
use Rattle.pb_compat.specs.Agrees.{Agrees, HasNoUnknown, FieldsHaveNoUnknown, ReadsMessages}
use Rattle.pb_compat.proofs.BreaksLemmas.{IsKept, kept_unbroken}
use Rattle.pb_compat.proofs.OnlyLemmas.{EachField}
use Rattle.pb_compat.proofs.MessageLemmas.{IsReadAt, fields_agree, nothing_more, unknown_fields}
use Rattle.pb_compat.proofs.FieldReadLemmas.{field_read}

-- ONE LEVEL

module _ (old new : Types) (rules_old : IsPool old) (rules_new : IsPool new) (start : ℕ × ℕ) (unbroken : (fields : ℕ) (p : ℕ × ℕ) → fields ≤ 100 → ReachedIn old new start fields p → NoneBreaks old new p.0 p.1) where
  abbrev pub Pair : ℕ → ℕ → ℕ → Type 0
  Pair fields m n = ReachedIn old new start fields (m, n)

  -- where the fields of a number lead
  pub lead : (fields m n k : ℕ) (f g : FieldView) → Pair fields m n → field_numbered k (message_fields old m) ≡ Some f → field_numbered k (message_fields new n) ≡ Some g
      → (i j : ℕ) → message_of_kind f.kind ≡ Some i → message_of_kind g.kind ≡ Some j → Pair (suc fields) i j
  lead fields m n k f g pair found_f found_g i j from to =
      further_in k pair
      (ap (λ (o : Option ℕ). pair_of o (message_at new n k)) (ap (option_and_then (λ (x : FieldView). message_of_kind x.kind)) found_f ∙ from)
      ∙ ap (pair_of (Some i)) (ap (option_and_then (λ (x : FieldView). message_of_kind x.kind)) found_g ∙ to))

  module _ (fields m n levels : ℕ) (inner : ℕ → List Record → Message) (few : fields ≤ 100) (pair : Pair fields m n)
      (inside : (i j : ℕ) (v : Message) → Pair (suc fields) i j → IsBody old i v → HasNoUnknown v → message_depth v < levels → Agrees old new i j v (inner j (canon old i v))) where
    abbrev all : List FieldView
    all = message_fields old m

    abbrev gs : List FieldView
    gs = message_fields new n

    field_unbroken : (k : ℕ) (f g : FieldView) → field_numbered k all ≡ Some f → field_numbered k gs ≡ Some g → IsKept old new m n f g
    field_unbroken k f g found_f found_g = kept_unbroken old new m n k f g (unbroken fields (m, n) few pair) found_f found_g

    read_fields : (fs : Fields) → AreFields old all fs → FieldsHaveNoUnknown fs → fields_depth fs ≤ levels → EachField (IsReadAt old new all gs inner) fs
    read_fields no_fields w none l = tt
    read_fields (field k h fs) w none l =
        let at = some_of (field_numbered k all) (λ (g : FieldView). IsOfShape g.shape h × IsHeld old g.shape g.kind h × (holds_declared old g.kind h ≡ true)) w.0 in (
          record {
            own = at.0;
            found = at.1;
            numbered = numbered_at old all (can_pack old m rules_old) k h at.0 at.1;
            read = λ g found.
                field_read old new rules_old rules_new m n levels inner (Pair (suc fields)) inside k at.0 g h (lead fields m n k at.0 g pair at.1 found) (field_unbroken k at.0 g at.1 found) at.1 found at.2.0 at.2.1 at.2.2 none.0
                (omega (arith, l));
          },
          read_fields fs w.1 none.1 (omega (arith, l)),
        )

    body_agrees : (fs : Fields) (us : List Record) → IsBody old m (body fs us) → HasNoUnknown (body fs us) → fields_depth fs ≤ levels
        → Agrees old new m n (body fs us) (body (fields_held inner gs gs (known new gs (canon old m (body fs us)))) (unknown new gs (canon old m (body fs us))))
    body_agrees fs us w none l =
        let read = read_fields fs w.0 none.1 l in
        let calm : (k : ℕ) (f g : FieldView) → field_numbered k all ≡ Some f → field_numbered k gs ≡ Some g → is_in_crowd (is_crowded all gs) g.shape ≡ false = λ k f g found_f found_g. (field_unbroken k f g found_f found_g).calm in
        let same : canon old m (body fs us) ≡ canon_fields old all fs = ap (λ (rs : List Record). canon_fields old all fs ++ rs) none.0 ∙ append-nil (canon_fields old all fs) in
        subst (λ (rs : List Record). Agrees old new m n (body fs us) (body (fields_held inner gs gs (known new gs rs)) (unknown new gs rs))) (sym same)
        (fields_agree old new rules_new all n inner fs w.1 w.0 w.2 read calm, nothing_more old new rules_new all n inner fs w.1 w.0 w.2, unknown_fields old new all gs inner fs read)

  -- ALL LEVELS

  pub within_agrees : (levels fields m n : ℕ) (v : Message) → Pair fields m n → fields + levels ≤ 101 → IsBody old m v → HasNoUnknown v → message_depth v < levels → Agrees old new m n v (value_within new levels n (canon old m v))
  unfolding value_within
  within_agrees zero fields m n v pair few w none l = absurd (omega (arith, l))
  within_agrees (suc levels) fields m n (body fs us) pair few w none l =
      body_agrees fields m n levels (value_within new levels) (omega (arith, few)) pair (λ i j v p b x d. within_agrees levels (suc fields) i j v p (omega (arith, few)) b x d) fs us w none (omega (arith, l))

pub messages_read : (old new : Types) → IsPool old → IsPool new → ReadsMessages old new
unfolding value
messages_read old new rules_old rules_new m n unbroken v w none =
    let deep = w.depth in
    within_agrees old new rules_old rules_new (m, n) unbroken 101 0 m n v begun_in (omega arith) w.parts none (omega (arith, deep))
