-- What a field of the new type reads of the canonical records of what a kept field of the old type holds.
use Rattle.std.proofs.Common.{◌≡◌, ℕ, ◌<◌, ◌≤◌, List, [], ◌∷◌, Bool, true, false, ◌&&◌, ◌||◌, Option, Some, None, refl, sym, ◌∙◌, ap, subst}
use Rattle.std.specs.List.{AllByRecursion}
use Rattle.pb_wire.specs.Record.{Record, wire_type}
use Rattle.pb_schema.specs.declared.types.Kind.{Kind}
use Rattle.pb_schema.specs.declared.types.Kind.TheVariants as kind
use Rattle.pb_schema.specs.declared.types.Shape.{Shape}
use Rattle.pb_schema.specs.declared.types.Shape.TheVariants as shape
use Rattle.pb_schema.specs.Types.{FieldView, MessageView, Types, message_fields, field_numbered}
use Rattle.pb_schema.specs.Kinds.{wire_type_of, closed_enum, written}
use Rattle.pb_schema.specs.Closed.{closed_of, is_list_field}
use Rattle.pb_schema.specs.Rules.{IsPool, MayBePacked, MayBeValue, HasKeyKind}
use Rattle.pb_value.specs.Data.{scalar, message, no_datums, datum, Holding, one, list, map, Message, holding_depth, message_depth}
use Rattle.pb_value.specs.Canon.{canon, canon_holding, record_of}
use Rattle.pb_value.specs.Judge.Forms.{is_implicit}
use Rattle.pb_value.specs.WellFormed.{IsOfShape, IsDatum, IsHeld, holds_declared, IsBody}
use Rattle.pb_value.proofs.HeldBack.{field_with}
use Rattle.pb_value.proofs.KnownLemmas.{settled-same}
use Rattle.pb_value.proofs.BodyBack.{can_pack, canon-good}
use Rattle.pb_value.proofs.JudgeLemmas.{found_in, fields_all}
use Rattle.pb_value.proofs.Numbers.{found_number}
use Rattle.pb_value.proofs.OpenedLemmas.{opened_shape}
use Rattle.pb_compat.specs.Fields.{keeps_kind, keeps_others, keeps_shape}
use Rattle.pb_compat.specs.Agrees.{Agrees, HasNoUnknown, HoldsNoUnknown}
use Rattle.pb_compat.proofs.BreaksLemmas.{IsKept}
use Rattle.pb_compat.proofs.ContentLemmas.{content_read, holding_read, IsCounted, one_counted, holding_counted, varint_uncut, opened_for, holding_settled}
use Rattle.pb_compat.proofs.ConvertLemmas.{LeadToPair, kept_read}
use Rattle.pb_compat.proofs.FieldLemmas.{and_both}
use Rattle.pb_compat.proofs.HoldingLemmas.{single_read}
use Rattle.pb_compat.proofs.ScalarLemmas.{others_kept}
use Rattle.pb_compat.proofs.MessageLemmas.{opened, FieldRead}

-- THE RULES OF A POOL

pub key_kinds : (pool : Types) (m n : ℕ) (f : FieldView) → IsPool pool → field_numbered n (message_fields pool m) ≡ Some f → HasKeyKind f.shape
key_kinds pool m n f rules e = (found_in (λ (g : FieldView). (t : MessageView) × HasKeyKind g.shape) n (message_fields pool m) f (fields_all (λ t g. HasKeyKind g.shape) pool pool.messages m rules.fields.shapes.keys) e).1

pub may_be_value : (pool : Types) (m n : ℕ) (f : FieldView) → IsPool pool → field_numbered n (message_fields pool m) ≡ Some f → MayBeValue f.shape f.kind
may_be_value pool m n f rules e =
    (found_in (λ (g : FieldView). (t : MessageView) × MayBeValue g.shape g.kind) n (message_fields pool m) f (fields_all (λ t g. MayBeValue g.shape g.kind) pool pool.messages m rules.fields.shapes.values) e).1

-- KINDS THAT KEEP ALL BUT THE DEFAULT

others_wire : (new : Types) (a b : Kind) → keeps_others new a b ≡ true → wire_type_of b ≡ 0
others_wire new kind.Bool (kind.ClosedEnum e) q = refl
others_wire new kind.Int32 (kind.ClosedEnum e) q = refl
others_wire new (kind.Enum i) (kind.ClosedEnum e) q = refl
others_wire new a b q = absurd (cc)

-- LISTS AS IF NOT PACKED

opened_carries : (P : Shape → Type 0) → ((p : Bool) → P (shape.List p) → P (shape.List false)) → (t : Shape) (b : Kind) (s : Shape) → P s → P (opened_for t b s)
opened_carries P carry (shape.List q) b s h = by (closed_enum b) s h
  where
    by : (e : Option ℕ) (s : Shape) → P s → P (opened_shape e s)
    by None s h = h
    by (Some e) (shape.List p) h = carry p h
    by (Some e) shape.Implicit h = h
    by (Some e) shape.Explicit h = h
    by (Some e) (shape.OneofMember o) h = h
    by (Some e) (shape.Map key) h = h
opened_carries P carry shape.Implicit b s h = h
opened_carries P carry shape.Explicit b s h = h
opened_carries P carry (shape.OneofMember o) b s h = h
opened_carries P carry (shape.Map key) b s h = h

shape_carries : (h : Holding) (p : Bool) → IsOfShape (shape.List p) h → IsOfShape (shape.List false) h
shape_carries (one d) p w = w
shape_carries (list no_datums) p w = w
shape_carries (list (datum d ds)) p w = tt
shape_carries (map es) p w = w

held_carries : (pool : Types) (k : Kind) (h : Holding) (p : Bool) → IsHeld pool (shape.List p) k h → IsHeld pool (shape.List false) k h
held_carries pool k (one d) p w = w
held_carries pool k (list ds) p w = w
held_carries pool k (map es) p w = w

-- A FIELD

-- Messages that fields hold are read as messages that agree, if their types are such a pair and they nest fewer levels than these.
module _ (old new : Types) (rules_old : IsPool old) (rules_new : IsPool new) (m n levels : ℕ) (inner : ℕ → List Record → Message) (P : ℕ → ℕ → Type 0)
    (inside : (i j : ℕ) (v : Message) → P i j → IsBody old i v → HasNoUnknown v → message_depth v < levels → Agrees old new i j v (inner j (canon old i v))) where
  abbrev all : List FieldView
  all = message_fields old m

  abbrev gs : List FieldView
  gs = message_fields new n

  -- where the new kind keeps all values but the default
  others_read : (k : ℕ) (f g : FieldView) (h : Holding) → f.number ≡ k → (is_implicit f.shape && keeps_others new f.kind g.kind) ≡ true → keeps_shape old new f.shape g.shape ≡ true → IsOfShape f.shape h → IsHeld old f.shape f.kind h
      → FieldRead old new gs inner k f g h
  others_read k f g h number others fit shaped w = by f.shape h (and_both (is_implicit f.shape) (keeps_others new f.kind g.kind) others).0 fit shaped w
    where
      keeps : keeps_others new f.kind g.kind ≡ true
      keeps = (and_both (is_implicit f.shape) (keeps_others new f.kind g.kind) others).1

      by : (s : Shape) (h : Holding) → is_implicit s ≡ true → keeps_shape old new s g.shape ≡ true → IsOfShape s h → IsHeld old s f.kind h → FieldRead old new gs inner k (field_with f.name f.number f.kind s) g h
      by shape.Implicit (one (scalar x)) i fit shaped w =
          let r = kept_read old new inner f.kind g.kind x (others_kept new f.kind g.kind keeps x w shaped) in
          let written_so : wire_type (written f.kind x) ≡ 0 = r.wire ∙ others_wire new f.kind g.kind keeps in
          record {
            settles = settled-same gs (record_of f.number (written f.kind x) ∷ [])
                (varint_uncut (written f.kind x) (is_list_field (field_numbered f.number gs)) (closed_of (field_numbered f.number gs)) written_so, tt);
            counted = subst (λ (j : ℕ). AllByRecursion (IsCounted new j g.shape g.kind) (record_of f.number (written f.kind x) ∷ [])) number
                (one_counted old new inner f.kind g.kind f.number g.shape (scalar x) fit r, tt);
            agrees = single_read old new inner f.kind g.kind f.name f.number shape.Implicit g.shape (scalar x) fit r;
          }
      by shape.Implicit (one (message v)) i fit shaped w = absurd (others_scalar f.kind keeps w)
        where
          others_scalar : (a : Kind) → keeps_others new a g.kind ≡ true → IsDatum old a (message v) → ⊥
          others_scalar (kind.Message j) e w = absurd (cc)
          others_scalar (kind.Group j) e w = absurd (cc)
          others_scalar a e w = w
      by shape.Implicit h i fit shaped w = absurd shaped
      by s h i fit shaped w = absurd (cc)

  kept_read_at : (k : ℕ) (f g : FieldView) (h : Holding) → LeadToPair old new inner P levels inside (canon-good old rules_old) f.kind g.kind → field_numbered k all ≡ Some f → field_numbered k gs ≡ Some g → keeps_kind old new f.kind g.kind ≡ true → keeps_shape old new f.shape g.shape ≡ true
      → IsOfShape f.shape h → IsHeld old f.shape f.kind h → holds_declared old f.kind h ≡ true → HoldsNoUnknown h → holding_depth h ≤ levels → FieldRead old new gs inner k f g h
  kept_read_at k f g h pair found_f found_g keeps fit shaped w declared none l =
      let can = can_pack old m rules_old k f found_f in
      let content = content_read old new inner P levels inside (canon-good old rules_old) f.kind g.kind keeps pair f.shape h (may_be_value old m k f rules_old found_f) w declared none l in
      let number : f.number ≡ k = found_number k all f found_f in
      let there : field_numbered f.number gs ≡ Some g = ap (λ (i : ℕ). field_numbered i gs) number ∙ found_g in
      let can_still : MayBePacked (opened_for g.shape g.kind f.shape) f.kind = opened_carries (λ s. MayBePacked s f.kind) (λ p x. tt) g.shape g.kind f.shape can in
      let key_still : HasKeyKind (opened_for g.shape g.kind f.shape) = opened_carries HasKeyKind (λ p x. tt) g.shape g.kind f.shape (key_kinds old m k f rules_old found_f) in
      let keeps_still : keeps_shape old new (opened_for g.shape g.kind f.shape) g.shape ≡ true = opened_carries (λ s. keeps_shape old new s g.shape ≡ true) (λ p x. x) g.shape g.kind f.shape fit in
      let shaped_still : IsOfShape (opened_for g.shape g.kind f.shape) h = opened_carries (λ s. IsOfShape s h) (shape_carries h) g.shape g.kind f.shape shaped in
      let held_still : IsHeld old (opened_for g.shape g.kind f.shape) f.kind h = opened_carries (λ s. IsHeld old s f.kind h) (held_carries old f.kind h) g.shape g.kind f.shape w in
      record {
        settles = holding_settled old new inner f.kind g.kind keeps f.name g.name f.number g.number gs f.shape g.shape h there can fit shaped w declared content;
        counted = subst (λ (i : ℕ). AllByRecursion (IsCounted new i g.shape g.kind) (canon_holding old (opened f g) h)) number
            (holding_counted old new inner f.kind g.kind keeps f.name f.number (opened_for g.shape g.kind f.shape) g.shape h can_still keeps_still shaped_still held_still declared content);
        agrees = holding_read old new inner (canon-good old rules_old) f.kind g.kind keeps f.name f.number (opened_for g.shape g.kind f.shape) g.shape h can_still key_still (key_kinds new n k g rules_new found_g) keeps_still shaped_still held_still declared content;
      }

  pub field_read : (k : ℕ) (f g : FieldView) (h : Holding) → LeadToPair old new inner P levels inside (canon-good old rules_old) f.kind g.kind → IsKept old new m n f g → field_numbered k all ≡ Some f → field_numbered k gs ≡ Some g
      → IsOfShape f.shape h → IsHeld old f.shape f.kind h → holds_declared old f.kind h ≡ true → HoldsNoUnknown h → holding_depth h ≤ levels → FieldRead old new gs inner k f g h
  field_read k f g h pair kept found_f found_g shaped w declared none l = by (keeps_kind old new f.kind g.kind) refl
    where
      by : (b : Bool) → keeps_kind old new f.kind g.kind ≡ b → FieldRead old new gs inner k f g h
      by true e = kept_read_at k f g h pair found_f found_g e kept.shape shaped w declared none l
      by false e =
          others_read k f g h (found_number k all f found_f) (ap (λ (b : Bool). b || (is_implicit f.shape && keeps_others new f.kind g.kind)) (sym e) ∙ kept.kind) kept.shape shaped w
