-- Messages of one field, or of two, that the new type does not read as the same.
use Rattle.std.proofs.Common.{◌≡◌, ℕ, suc, ◌+◌, ◌*◌, ◌<◌, ◌≤◌, ◌^◌, length, List, [], ◌∷◌, true, not, Option, Some, IfSome, IsSomeAnd, refl, sym, ◌∙◌, ap, subst, arith, append-nil}
use Rattle.std.specs.Prelude.{is_some, if◌then◌else◌}
use Rattle.pb_wire.specs.Record.{Record}
use Rattle.pb_wire.specs.Limits.{full}
use Rattle.pb_wire.specs.Schema.{Schema}
use Rattle.pb_wire.specs.Sound.{Sound, AllSound}
use Rattle.pb_wire.specs.Spell.{shortest_records}
use Rattle.pb_wire.proofs.Unique.{same_records}
use Rattle.pb_schema.specs.Context.{a_message, schema_of}
use Rattle.pb_schema.specs.Types.{FieldView, Types, message_fields, field_numbered}
use Rattle.pb_schema.specs.Rules.{IsPool}
use Rattle.pb_value.specs.Data.{Holding, no_fields, field, Message, fields_of, unknown_of, get_field, holding_depth, message_depth}
use Rattle.pb_value.specs.Value.{value, value_within}
use Rattle.pb_value.specs.Canon.{canon, canon_bytes, canon_holding, canon_fields, by_field}
use Rattle.pb_value.specs.Derives.{Text}
use Rattle.pb_value.specs.WellFormed.{IsOfShape, IsHeld, IsBody, IsWellFormed, holds_declared, oneof_at, HasNoMember}
use Rattle.pb_value.proofs.BodyBack.{canon-good}
use Rattle.pb_value.proofs.BytesLemmas.{AreBytes-shortest_records}
use Rattle.pb_value.proofs.CanonLemmas.{canon-spelled}
use Rattle.pb_value.proofs.Options.{if_some, at_some}
use Rattle.pb_value.proofs.ValueLemmas.{derived_is_well_formed}
use Rattle.pb_compat.specs.Agrees.{Agrees, HasNoUnknown, HoldsSame, HoldsNoUnknown}
use Rattle.pb_compat.specs.Witness.{IsWitness, alone}
use Rattle.pb_compat.proofs.NeverLemmas.{MayHold, may_hold}

-- the first of some sound records
pub first_sound : {S : Schema} {c : S.Context} {levels : ℕ} {r : Record} {rs : List Record} → AllSound S c levels (r ∷ rs) → Sound S c levels r.number r.payload
first_sound (AllSound.one x xs) = x

-- WHAT THE NEW TYPE READS OF CANONICAL BYTES

module _ (old new : Types) (rules_old : IsPool old) (rules_new : IsPool new) (m n : ℕ) (v : Message) (well : IsWellFormed old m v) where
  pub read_well : (w : Message) → Text new n full (canon_bytes old m v) w → IsWellFormed new n w
  read_well w t =
      derived_is_well_formed new rules_new n full.depth (canon_bytes old m v) w (omega arith) (AreBytes-shortest_records (canon old m v) (canon-good old rules_old m v well.parts).in_range) t.derives

  read_records : length (canon_bytes old m v) < 2 ^ 31 → (w : Message) (t : Text new n full (canon_bytes old m v) w) → t.derives.records ≡ canon old m v
  read_records small w t = same_records t.derives.records (canon old m v) (canon_bytes old m v) t.derives.spelled (canon-spelled old m v rules_old well.parts small)

  pub read_value : length (canon_bytes old m v) < 2 ^ 31 → (w : Message) → Text new n full (canon_bytes old m v) w → w ≡ value new n (canon old m v)
  read_value small w t = t.derives.valued ∙ ap (value new n) (read_records small w t)

  pub read_sound : length (canon_bytes old m v) < 2 ^ 31 → (w : Message) → Text new n full (canon_bytes old m v) w → AllSound (schema_of new) (a_message n) 100 (canon old m v)
  read_sound small w t = subst (AllSound (schema_of new) (a_message n) 100) (read_records small w t) t.derives.sound

-- a message that is well formed but perhaps too deep, without unknown records, and shorter than its levels allow
pub record IsPlain (old : Types) (m : ℕ) (v : Message) : Type 0 where
  pub parts : IsBody old m v
  pub known : HasNoUnknown v
  pub short : length (canon_bytes old m v) < 2 ^ 22 + 100 * message_depth v

-- one whose records the new type does not take, or does not read as a message that agrees, whatever the levels that are left
pub record IsMisread (old new : Types) (m n : ℕ) (v : Message) : Type 0 where
  pub plain : IsPlain old m v
  pub unread : (levels : ℕ) (w : Message) → message_depth v ≤ levels → AllSound (schema_of new) (a_message n) levels (canon old m v) → IsBody new n w → w ≡ value_within new (suc levels) n (canon old m v) → Agrees old new m n v w → ⊥

-- where it nests at most 100 levels, it is a witness
pub misread_shows : (old new : Types) → IsPool old → IsPool new → (m n : ℕ) (v : Message) → IsMisread old new m n v → message_depth v ≤ 100 → IsWitness old new m n v
unfolding value
misread_shows old new rules_old rules_new m n v s deep =
    let well : IsWellFormed old m v = record { parts = s.plain.parts; depth = deep } in
    let short = s.plain.short in
    let small : length (canon_bytes old m v) < 2 ^ 31 = omega (arith, short, deep) in
    record {
      well_formed = well;
      known = s.plain.known;
      size = small;
      unread = λ w t a. s.unread 100 w deep (read_sound old new rules_old rules_new m n v well small w t) (read_well old new rules_old rules_new m n v well w t).parts (read_value old new rules_old rules_new m n v well small w t) a;
    }

-- MESSAGES OF ONE FIELD

-- a field can hold a content, which has no unknown records and is short
pub record CanHold (old : Types) (f : FieldView) (h : Holding) : Type 0 where
  pub shaped : IsOfShape f.shape h
  pub held : IsHeld old f.shape f.kind h
  pub declared : holds_declared old f.kind h ≡ true
  pub known : HoldsNoUnknown h
  pub depth : holding_depth h ≤ 1
  pub short : length (shortest_records (canon_holding old f h)) < 2 ^ 20

module _ (old : Types) (m k : ℕ) (f : FieldView) (found : field_numbered k (message_fields old m) ≡ Some f) (h : Holding) where
  pub alone_parts : IsOfShape f.shape h → IsHeld old f.shape f.kind h → holds_declared old f.kind h ≡ true → IsBody old m (alone k h)
  alone_parts shaped held declared = (
    (subst (λ (o : Option FieldView). IsSomeAnd o (λ x. IsOfShape x.shape h × IsHeld old x.shape x.kind h × (holds_declared old x.kind h ≡ true))) (sym found) (shaped, held, declared), tt),
    (omega arith, tt),
    (if_some (oneof_at (message_fields old m) k) (λ o. HasNoMember (message_fields old m) o no_fields) (λ o e. tt), tt),
    tt,
  )

  pub alone_records : canon old m (alone k h) ≡ canon_holding old f h
  alone_records =
      append-nil (canon_fields old (message_fields old m) (field k h no_fields)) ∙ append-nil (by_field (field_numbered k (message_fields old m)) (λ (x : FieldView). canon_holding old x h))
      ∙ ap (λ (o : Option FieldView). by_field o (λ (x : FieldView). canon_holding old x h)) found

  pub alone_plain : (can : CanHold old f h) → IsPlain old m (alone k h)
  alone_plain can = record {
    parts = alone_parts can.shaped can.held can.declared;
    known = (refl, (can.known, tt));
    short = let short = can.short in let same = ap (λ (rs : List Record). length (shortest_records rs)) alone_records in omega (arith, short, same);
  }

  pub alone_well : (can : CanHold old f h) → IsWellFormed old m (alone k h)
  alone_well can = record { parts = alone_parts can.shaped can.held can.declared; depth = let deep = can.depth in omega (arith, deep) }

module _ (old new : Types) (m n k : ℕ) (f g : FieldView)
    (found_f : field_numbered k (message_fields old m) ≡ Some f) (found_g : field_numbered k (message_fields new n) ≡ Some g) (h : Holding) where
  pub same_alone : (w : Message) → Agrees old new m n (alone k h) w → HoldsSame old new f.kind g.kind g.shape h (get_field k (fields_of w))
  same_alone w a =
      at_some (field_numbered k (message_fields new n)) (λ x. HoldsSame old new f.kind x.kind x.shape h (get_field k (fields_of w))) g
      (at_some (field_numbered k (message_fields old m)) (λ y. IfSome (field_numbered k (message_fields new n)) (λ x. HoldsSame old new y.kind x.kind x.shape h (get_field k (fields_of w)))) f a.0.0 found_f)
      found_g

  -- the new type declares the field, so a message that agrees has no unknown records
  pub none_unknown : (w : Message) → Agrees old new m n (alone k h) w → unknown_of w ≡ []
  none_unknown w a =
      a.2 ∙ ap (λ (o : Option FieldView). canon_fields old (message_fields old m) (if not (is_some o) then field k h no_fields else no_fields)) found_g

module _ (old new : Types) (rules_old : IsPool old) (rules_new : IsPool new) (m n k : ℕ) (f g : FieldView)
    (found_f : field_numbered k (message_fields old m) ≡ Some f) (found_g : field_numbered k (message_fields new n) ≡ Some g) (h : Holding) (can : CanHold old f h) where
  misread_by : ((levels : ℕ) (w : Message) → AllSound (schema_of new) (a_message n) levels (canon old m (alone k h)) → IsBody new n w → w ≡ value_within new (suc levels) n (canon old m (alone k h)) → Agrees old new m n (alone k h) w → ⊥) → IsMisread old new m n (alone k h)
  misread_by never = record { plain = alone_plain old m k f found_f h can; unread = λ levels w deep sound b e a. never levels w sound b e a }

  -- what is read is well formed, and no well-formed content is the same
  pub witness_alone : ((o : Option Holding) → MayHold old new g.shape g.kind o → HoldsSame old new f.kind g.kind g.shape h o → ⊥) → IsMisread old new m n (alone k h)
  witness_alone never = misread_by (λ levels w sound b e a. never (get_field k (fields_of w)) (may_hold old new n k g w b found_g) (same_alone old new m n k f g found_f found_g h w a))

  -- what is read is the value of the canonical records
  pub witness_read : ((levels : ℕ) (w : Message) → w ≡ value_within new (suc levels) n (canon_holding old f h) → Agrees old new m n (alone k h) w → ⊥) → IsMisread old new m n (alone k h)
  witness_read never = misread_by (λ levels w sound b e a. never levels w (e ∙ ap (value_within new (suc levels) n) (alone_records old m k f found_f h)) a)

  -- the records are not sound
  pub witness_sound : ((levels : ℕ) → AllSound (schema_of new) (a_message n) levels (canon_holding old f h) → ⊥) → IsMisread old new m n (alone k h)
  witness_sound never = misread_by (λ levels w sound b e a. never levels (subst (AllSound (schema_of new) (a_message n) levels) (alone_records old m k f found_f h) sound))

  pub alone_shows : IsMisread old new m n (alone k h) → IsWitness old new m n (alone k h)
  alone_shows misread = misread_shows old new rules_old rules_new m n (alone k h) misread (alone_well old m k f found_f h can).depth
