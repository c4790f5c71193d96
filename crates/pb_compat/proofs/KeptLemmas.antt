-- One field that no difference breaks, in messages whose other fields may hold anything.
use Rattle.std.proofs.Common.{◌≡◌, ◌≢◌, ℕ, ◌<◌, ◌≤◌, List, [], ◌++◌, true, Option, Some, None, refl, sym, ◌∙◌, ap, subst, arith, append-nil, inl, inr}
use Rattle.std.specs.Prelude.{◌⊎◌, IfSome, option_and_then}
use Rattle.pb_wire.specs.Record.{Record}
use Rattle.pb_wire.specs.Sound.{AllSound}
use Rattle.pb_wire.specs.Writable.{AreWritable}
use Rattle.pb_schema.specs.Context.{a_message, schema_of}
use Rattle.pb_schema.specs.Closed.{known, unknown}
use Rattle.pb_schema.specs.Kinds.{message_of_kind}
use Rattle.pb_schema.specs.Rules.{IsPool}
use Rattle.pb_schema.specs.Types.{FieldView, Types, message_fields, field_numbered}
use Rattle.pb_value.specs.Data.{Holding, Fields, no_fields, field, Message, body, fields_of, get_field, holding_depth, fields_depth, message_depth}
use Rattle.pb_value.specs.Canon.{canon, canon_fields, canon_holding}
use Rattle.pb_value.specs.Value.{fields_held, held, value, value_within}
use Rattle.pb_value.specs.WellFormed.{IsBody, IsOfShape, IsHeld, IsWellFormed, holds_declared}
use Rattle.pb_value.proofs.BodyBack.{can_pack, canon-good}
use Rattle.pb_value.proofs.CanonLemmas.{canon-spelled, writable_records}
use Rattle.pb_value.proofs.FieldBack.{numbered_at}
use Rattle.pb_value.proofs.FieldExtent.{get_field-first, get_field-later, equal_or_not}
use Rattle.pb_value.proofs.Options.{if_some, some_of}
use Rattle.pb_value.proofs.PartLemmas.{held_at}
use Rattle.pb_compat.specs.Agrees.{Agrees, HasNoUnknown, FieldsHaveNoUnknown, HoldsNoUnknown, HoldsSame}
use Rattle.pb_compat.specs.Effects.{NothingBreaksIn, IsKeptAt, read_at}
use Rattle.pb_compat.specs.Pairs.{leads, pair_of, message_at, begun_in}
use Rattle.pb_compat.specs.Witness.{alone}
use Rattle.pb_compat.proofs.BreaksLemmas.{IsKept}
use Rattle.pb_compat.proofs.EncodingLemmas.{sound_kept, sound_within}
use Rattle.pb_compat.proofs.FieldReadLemmas.{field_read}
use Rattle.pb_compat.proofs.MessageLemmas.{opened, FieldRead, IsReadAt, held_there, same_there, nothing_more, unknown_fields}
use Rattle.pb_compat.proofs.OnlyLemmas.{EachField}
use Rattle.pb_compat.proofs.WholeLemmas.{within_agrees}
use Rattle.pb_compat.proofs.WitnessLemmas.{alone_records}

-- FIELDS THAT ARE SET

known_each : (fs : Fields) → FieldsHaveNoUnknown fs → EachField (λ k h. HoldsNoUnknown h) fs
known_each no_fields w = tt
known_each (field k h fs) w = (w.0, known_each fs w.1)

shallow_each : (top : ℕ) (fs : Fields) → fields_depth fs ≤ top → EachField (λ k h. holding_depth h ≤ top) fs
shallow_each top no_fields l = tt
shallow_each top (field k h fs) l = (omega (arith, l), shallow_each top fs (omega (arith, l)))

-- what each field has, one that is set has
of_each : (P : Holding → Type 0) (k : ℕ) (h : Holding) (fs : Fields) → EachField (λ j x. P x) fs → get_field k fs ≡ Some h → P h
of_each P k h no_fields w e = absurd (cc)
of_each P k h (field j x fs) w e = by (equal_or_not k j) (of_each P k h fs w.1)
  where
    by : (k ≡ j) ⊎ (k ≢ j) → (get_field k fs ≡ Some h → P h) → P h
    by (inl z) later =
        let here : Some x ≡ Some h = sym (ap (λ (i : ℕ). get_field i (field j x fs)) z ∙ get_field-first j x fs) ∙ e in
        let same : x ≡ h = cc in subst P same w.0
    by (inr d) later = later (sym (get_field-later k j x fs d) ∙ e)

-- what a message holds in a field
pub record IsSet (old : Types) (f : FieldView) (h : Holding) : Type 0 where
  pub shaped : IsOfShape f.shape h
  pub held : IsHeld old f.shape f.kind h
  pub declared : holds_declared old f.kind h ≡ true
  pub known : HoldsNoUnknown h
  pub depth : holding_depth h ≤ 100

pub set_at : (old : Types) (m k : ℕ) (f : FieldView) (fs : Fields) (us : List Record) (h : Holding) → field_numbered k (message_fields old m) ≡ Some f → IsWellFormed old m (body fs us) → HasNoUnknown (body fs us) → get_field k fs ≡ Some h → IsSet old f h
set_at old m k f fs us h found w none e =
    let at = some_of (field_numbered k (message_fields old m)) (λ (g : FieldView). IsOfShape g.shape h × IsHeld old g.shape g.kind h × (holds_declared old g.kind h ≡ true)) (held_at old (message_fields old m) k h fs w.parts.0 e) in
    let there = at.1 in
    let same : at.0 ≡ f = cc in
    let is = subst (λ (g : FieldView). IsOfShape g.shape h × IsHeld old g.shape g.kind h × (holds_declared old g.kind h ≡ true)) same at.2 in
    let deep = w.depth in
    record {
      shaped = is.0;
      held = is.1;
      declared = is.2;
      known = of_each HoldsNoUnknown k h fs (known_each fs none.1) e;
      depth = of_each (λ x. holding_depth x ≤ 100) k h fs (shallow_each 100 fs (omega (arith, deep))) e;
    }

-- A FIELD THAT IS KEPT

module _ (old new : Types) (rules_old : IsPool old) (rules_new : IsPool new) (m n k : ℕ) (f g : FieldView) (found_f : field_numbered k (message_fields old m) ≡ Some f) (found_g : field_numbered k (message_fields new n) ≡ Some g)
    (kept : IsKept old new m n f g) (below : NothingBreaksIn old new m n k) where
  abbrev all : List FieldView
  all = message_fields old m

  abbrev gs : List FieldView
  gs = message_fields new n

  abbrev inner : ℕ → List Record → Message
  inner = value_within new 100

  abbrev Pair : ℕ → ℕ → Type 0
  Pair i j = leads old new (m, n) k ≡ Some (i, j)

  inside : (i j : ℕ) (v : Message) → Pair i j → IsBody old i v → HasNoUnknown v → message_depth v < 100 → Agrees old new i j v (inner j (canon old i v))
  inside i j v pair w none l = within_agrees old new rules_old rules_new (i, j) (below (i, j) pair) 100 0 i j v begun_in (omega arith) w none l

  lead : (i j : ℕ) → message_of_kind f.kind ≡ Some i → message_of_kind g.kind ≡ Some j → Pair i j
  lead i j from to =
      ap (λ (o : Option ℕ). pair_of o (message_at new n k)) (ap (option_and_then (λ (x : FieldView). message_of_kind x.kind)) found_f ∙ from)
      ∙ ap (pair_of (Some i)) (ap (option_and_then (λ (x : FieldView). message_of_kind x.kind)) found_g ∙ to)

  read_set : (h : Holding) → IsSet old f h → FieldRead old new gs inner k f g h
  read_set h set = field_read old new rules_old rules_new m n 100 inner Pair inside k f g h lead kept found_f found_g set.shaped set.held set.declared set.known set.depth

  -- what is read of the records of a message
  abbrev pub fields_read : Fields → Fields
  fields_read fs = fields_held inner gs gs (known new gs (canon_fields old all fs))

  pub read_as : (fs : Fields) (us : List Record) → HasNoUnknown (body fs us) → value new n (canon old m (body fs us)) ≡ body (fields_read fs) (unknown new gs (canon_fields old all fs))
  unfolding value value_within
  read_as fs us none =
      ap (λ (rs : List Record). body (fields_held inner gs gs (known new gs rs)) (unknown new gs rs))
      (ap (λ (rs : List Record). canon_fields old all fs ++ rs) none.0 ∙ append-nil (canon_fields old all fs))

  read_field : (fs : Fields) (us : List Record) → HasNoUnknown (body fs us) → read_at old new m n k (body fs us) ≡ get_field k (fields_read fs)
  read_field fs us none = ap (λ (v : Message). get_field k (fields_of v)) (read_as fs us none)

  -- it holds what it reads of the canonical records of the old field
  pub read_held : (v : Message) (h : Holding) → IsWellFormed old m v → HasNoUnknown v → get_field k (fields_of v) ≡ Some h → read_at old new m n k v ≡ held inner g (canon_holding old (opened f g) h)
  read_held (body fs us) h w none e =
      read_field fs us none
      ∙ held_there old new rules_new all n inner fs w.parts.1 w.parts.0 w.parts.2 k f g h found_f found_g kept.calm e (read_set h (set_at old m k f fs us h found_f w none e))

  pub read_same : (v : Message) (h : Holding) → IsWellFormed old m v → HasNoUnknown v → get_field k (fields_of v) ≡ Some h → HoldsSame old new f.kind g.kind g.shape h (read_at old new m n k v)
  read_same (body fs us) h w none e =
      subst (HoldsSame old new f.kind g.kind g.shape h) (sym (read_field fs us none))
      (same_there old new rules_new all n inner fs w.parts.1 w.parts.0 w.parts.2 k f g h found_f found_g kept.calm e (read_set h (set_at old m k f fs us h found_f w none e)))

  pub read_unset : (v : Message) → IsWellFormed old m v → HasNoUnknown v → get_field k (fields_of v) ≡ None → read_at old new m n k v ≡ None
  read_unset (body fs us) w none e = read_field fs us none ∙ nothing_more old new rules_new all n inner fs w.parts.1 w.parts.0 w.parts.2 k e

  -- A MESSAGE OF THE FIELD ALONE

  alone_agrees : (h : Holding) → IsWellFormed old m (alone k h) → HasNoUnknown (alone k h) → Agrees old new m n (alone k h) (value new n (canon old m (alone k h)))
  alone_agrees h w none =
      let set = set_at old m k f (field k h no_fields) [] h found_f w none (get_field-first k h no_fields) in
      let at : IsReadAt old new all gs inner k h = record {
        own = f;
        found = found_f;
        numbered = numbered_at old all (can_pack old m rules_old) k h f found_f;
        read = λ x found. let same : g ≡ x = cc in subst (λ (y : FieldView). FieldRead old new gs inner k f y h) same (read_set h set);
      } in
      subst (Agrees old new m n (alone k h)) (sym (read_as (field k h no_fields) [] none)) (
        (
          if_some (field_numbered k all) (λ x. IfSome (field_numbered k gs) (λ y. HoldsSame old new x.kind y.kind y.shape h (get_field k (fields_read (field k h no_fields)))))
              (λ x there_f.
              if_some (field_numbered k gs) (λ y. HoldsSame old new x.kind y.kind y.shape h (get_field k (fields_read (field k h no_fields))))
              (λ y there_g.
              let same_f : f ≡ x = cc in
              let same_g : g ≡ y = cc in
              subst (λ (z : FieldView). HoldsSame old new z.kind y.kind y.shape h (get_field k (fields_read (field k h no_fields)))) same_f
              (subst (λ (z : FieldView). HoldsSame old new f.kind z.kind z.shape h (get_field k (fields_read (field k h no_fields)))) same_g
              (same_there old new rules_new all n inner (field k h no_fields) w.parts.1 w.parts.0 w.parts.2 k f g h found_f found_g kept.calm (get_field-first k h no_fields) (read_set h set))))),
          tt,
        ),
        nothing_more old new rules_new all n inner (field k h no_fields) w.parts.1 w.parts.0 w.parts.2,
        unknown_fields old new all gs inner (field k h no_fields) (at, tt),
      )

  alone_sound : (h : Holding) → IsWellFormed old m (alone k h) → HasNoUnknown (alone k h) → AreWritable (canon old m (alone k h)) → AllSound (schema_of new) (a_message n) 100 (canon old m (alone k h))
  alone_sound h w none short =
      let set = set_at old m k f (field k h no_fields) [] h found_f w none (get_field-first k h no_fields) in
      let same = alone_records old m k f found_f h in
      subst (AllSound (schema_of new) (a_message n) 100) (sym same)
      (sound_kept old new Pair 100 (λ i j v pair b d l s. (99, refl, sound_within old new rules_old rules_new (i, j) (below (i, j) pair) 99 0 i j v begun_in (omega arith) b d (omega (arith, l)) s)) (canon-good old rules_old) rules_old m n k f g h
      lead kept found_f found_g set.shaped set.held set.declared set.known set.depth (subst AreWritable same short))

  pub is_kept_at : IsKeptAt old new m n k f g
  is_kept_at = record {
    same = read_same;
    unset = read_unset;
    taken = λ h w none small.
        let good = canon-good old rules_old m (alone k h) w.parts in (
          value new n (canon old m (alone k h)),
          record {
            size = omega (arith, small);
            derives = record {
              records = canon old m (alone k h);
              spelled = canon-spelled old m (alone k h) rules_old w.parts small;
              sound = alone_sound h w none (writable_records (canon old m (alone k h)) good.numbered small);
              valued = refl;
            };
          },
          alone_agrees h w none,
        );
  }
