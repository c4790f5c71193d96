-- What a well-formed message of the new type does not hold, as the same as an old field's content.
use Rattle.std.proofs.Common.{◌≡◌, ℕ, Bool, true, false, Option, Some, None, IfSome, IsSomeAnd, refl, subst}
use Rattle.pb_schema.specs.declared.types.Kind.{Kind}
use Rattle.pb_schema.specs.declared.types.Kind.TheVariants as kind
use Rattle.pb_schema.specs.declared.types.Shape.{Shape}
use Rattle.pb_schema.specs.declared.types.Shape.TheVariants as shape
use Rattle.pb_schema.specs.Types.{FieldView, MessageView, Types, message_fields, field_numbered, is_proto2}
use Rattle.pb_schema.specs.Scalar.{Scalar}
use Rattle.pb_schema.specs.Kinds.{IsOfKind, default_of, closed_enum, message_of_kind}
use Rattle.pb_schema.specs.Rules.{IsPool, MayBeImplicit, MayBeValue, MayStandIn}
use Rattle.pb_value.specs.Data.{Datum, scalar, Datums, no_datums, datum, Entries, no_entries, entry, Holding, one, list, map as map_of, Message, body, fields_of, get_field}
use Rattle.pb_value.specs.Judge.Forms.{is_implicit}
use Rattle.pb_value.specs.WellFormed.{IsOfShape, IsHeld, IsBody, datum_declared, datums_declared, holds_declared}
use Rattle.pb_value.proofs.ElementLemmas.{IsOfKind-default_of}
use Rattle.pb_value.proofs.JudgeLemmas.{found_in, fields_all}
use Rattle.pb_value.proofs.Options.{if_some}
use Rattle.pb_value.proofs.PartLemmas.{held_at}
use Rattle.pb_compat.specs.Scalars.{meaning}
use Rattle.pb_compat.specs.Fields.{is_map, is_list}
use Rattle.pb_compat.specs.Agrees.{HoldsSame}
use Rattle.pb_compat.specs.Samples.{IsNeverSame}
use Rattle.pb_compat.proofs.FieldLemmas.{and_both}
use Rattle.pb_compat.proofs.HoldingLemmas.{open_declared, no_closed_value}

-- THE RULES OF A POOL

pub may_be_implicit : (pool : Types) (m n : ℕ) (f : FieldView) → IsPool pool → field_numbered n (message_fields pool m) ≡ Some f → MayBeImplicit f.shape f.kind
may_be_implicit pool m n f rules e =
    (found_in (λ (g : FieldView). (t : MessageView) × MayBeImplicit g.shape g.kind) n (message_fields pool m) f (fields_all (λ t g. MayBeImplicit g.shape g.kind) pool pool.messages m rules.fields.shapes.implicit) e).1

may_stand : (pool : Types) (m n : ℕ) (f : FieldView) → IsPool pool → field_numbered n (message_fields pool m) ≡ Some f → (t : MessageView) × MayStandIn (is_proto2 pool.files t.file) f.shape f.kind
may_stand pool m n f rules e =
    found_in (λ (g : FieldView). (t : MessageView) × MayStandIn (is_proto2 pool.files t.file) g.shape g.kind) n (message_fields pool m) f
    (fields_all (λ t g. MayStandIn (is_proto2 pool.files t.file) g.shape g.kind) pool pool.messages m rules.syntax.fields) e

-- an implicit field is of no message and of no closed enum
pub record HasDefault (b : Kind) : Type 0 where
  pub plain : message_of_kind b ≡ None
  pub unclosed : closed_enum b ≡ None

pub implicit_default : (pool : Types) (m n : ℕ) (f : FieldView) → IsPool pool → field_numbered n (message_fields pool m) ≡ Some f → is_implicit f.shape ≡ true → HasDefault f.kind
implicit_default pool m n f rules e i = let t = may_stand pool m n f rules e in by f.shape f.kind i (may_be_implicit pool m n f rules e) (is_proto2 pool.files t.0.file) t.1
  where
    scalar_kind : (b : Kind) → MayBeImplicit shape.Implicit b → message_of_kind b ≡ None
    scalar_kind (kind.Message i) h = absurd h
    scalar_kind (kind.Group i) h = absurd h
    scalar_kind b h = refl

    by : (s : Shape) (b : Kind) → is_implicit s ≡ true → MayBeImplicit s b → (two : Bool) → MayStandIn two s b → HasDefault b
    by shape.Implicit b i may true stand = absurd stand
    by shape.Implicit b i may false stand = record { plain = scalar_kind b may; unclosed = no_closed_value b stand }
    by shape.Explicit b i may two stand = absurd (cc)
    by (shape.OneofMember o) b i may two stand = absurd (cc)
    by (shape.List p) b i may two stand = absurd (cc)
    by (shape.Map key) b i may two stand = absurd (cc)

-- WHAT A FIELD OF THE NEW TYPE MAY HOLD

module _ (old new : Types) where
  abbrev pub MayHold : Shape → Kind → Option Holding → Type 0
  MayHold t b o = IfSome o (λ h. IsOfShape t h × IsHeld new t b h × (holds_declared new b h ≡ true))

  pub may_hold : (n k : ℕ) (g : FieldView) (w : Message) → IsBody new n w → field_numbered k (message_fields new n) ≡ Some g → MayHold g.shape g.kind (get_field k (fields_of w))
  may_hold n k g (body fs us) w found =
      if_some (get_field k fs) (λ h. IsOfShape g.shape h × IsHeld new g.shape g.kind h × (holds_declared new g.kind h ≡ true))
      (λ h e. subst (λ (o : Option FieldView). IsSomeAnd o (λ x. IsOfShape x.shape h × IsHeld new x.shape x.kind h × (holds_declared new x.kind h ≡ true))) found (held_at new (message_fields new n) k h fs w.0 e))

  -- SHAPES

  pub one_is_no_map : (t : Shape) (a b : Kind) (d : Datum) (o : Option Holding) → is_map t ≡ true → MayHold t b o → HoldsSame old new a b t (one d) o → ⊥
  one_is_no_map (shape.Map key) a b d None e may same = let z = same.0 in absurd (cc)
  one_is_no_map (shape.Map key) a b d (Some (one c)) e may same = may.0
  one_is_no_map (shape.Map key) a b d (Some (list es)) e may same = may.0
  one_is_no_map (shape.Map key) a b d (Some (map_of es)) e may same = same
  one_is_no_map t a b d o e may same = absurd (cc)

  pub list_is_list : (t : Shape) (a b : Kind) (d : Datum) (ds : Datums) (o : Option Holding) → is_list t ≡ false → MayHold t b o → HoldsSame old new a b t (list (datum d ds)) o → ⊥
  list_is_list t a b d ds None lacks may same = same
  list_is_list t a b d ds (Some (one e)) lacks may same = same
  list_is_list t a b d ds (Some (map_of es)) lacks may same = same
  list_is_list t a b d ds (Some (list es)) lacks may same = by t es lacks may.0
    where
      by : (t : Shape) (es : Datums) → is_list t ≡ false → IsOfShape t (list es) → ⊥
      by (shape.List p) es lacks shaped = absurd (cc)
      by shape.Implicit es lacks shaped = shaped
      by shape.Explicit es lacks shaped = shaped
      by (shape.OneofMember o) es lacks shaped = shaped
      by (shape.Map key) es lacks shaped = shaped

  pub map_is_map : (t : Shape) (a b : Kind) (x : Scalar) (d : Datum) (ds : Entries) (o : Option Holding) → is_map t ≡ false → MayHold t b o → HoldsSame old new a b t (map_of (entry x d ds)) o → ⊥
  map_is_map t a b x d ds None lacks may same = same
  map_is_map t a b x d ds (Some (one e)) lacks may same = same
  map_is_map t a b x d ds (Some (list es)) lacks may same = same
  map_is_map t a b x d ds (Some (map_of es)) lacks may same = by t es lacks may.0
    where
      by : (t : Shape) (es : Entries) → is_map t ≡ false → IsOfShape t (map_of es) → ⊥
      by (shape.Map key) es lacks shaped = absurd (cc)
      by shape.Implicit es lacks shaped = shaped
      by shape.Explicit es lacks shaped = shaped
      by (shape.OneofMember o) es lacks shaped = shaped
      by (shape.List p) es lacks shaped = shaped

  -- VALUES

  pub never_one : (t : Shape) (a b : Kind) (d : Datum) (o : Option Holding) → IsNeverSame old new a b d → (is_implicit t ≡ true → HasDefault b) → MayHold t b o → HoldsSame old new a b t (one d) o → ⊥
  never_one t a b d None never default may same =
      let has = default same.0 in never (scalar (default_of b)) (IsOfKind-default_of b has.plain) (open_declared new b (scalar (default_of b)) has.unclosed) same.1
  never_one t a b d (Some (one e)) never default may same = never e may.1 may.2 same
  never_one t a b d (Some (list no_datums)) never default may same = same
  never_one t a b d (Some (list (datum e no_datums))) never default may same = never e may.1.0 (and_both (datum_declared new b e) true may.2).0 same
  never_one t a b d (Some (list (datum e (datum c es)))) never default may same = same
  never_one t a b d (Some (map_of es)) never default may same = same

  pub never_list : (t : Shape) (a b : Kind) (d : Datum) (ds : Datums) (o : Option Holding) → IsNeverSame old new a b d → MayHold t b o → HoldsSame old new a b t (list (datum d ds)) o → ⊥
  never_list t a b d ds None never may same = same
  never_list t a b d ds (Some (one e)) never may same = same
  never_list t a b d ds (Some (list no_datums)) never may same = same
  never_list t a b d ds (Some (list (datum e es))) never may same = never e may.1.0 (and_both (datum_declared new b e) (datums_declared new b es) may.2).0 same.0
  never_list t a b d ds (Some (map_of es)) never may same = same

  pub never_map : (t : Shape) (a b : Kind) (x : Scalar) (d : Datum) (ds : Entries) (o : Option Holding) → IsNeverSame old new a b d → MayBeValue t b → MayHold t b o → HoldsSame old new a b t (map_of (entry x d ds)) o → ⊥
  never_map t a b x d ds None never value may same = same
  never_map t a b x d ds (Some (one e)) never value may same = same
  never_map t a b x d ds (Some (list es)) never value may same = same
  never_map t a b x d ds (Some (map_of no_entries)) never value may same = same
  never_map (shape.Map l) a b x d ds (Some (map_of (entry y e es))) never value may same = never e may.1.0.1 (open_declared new b e (no_closed_value b value)) same.1
  never_map t a b x d ds (Some (map_of (entry y e es))) never value may same = may.1

  -- no key of the new kind means the same
  abbrev pub IsNeverKey : Kind → Scalar → Type 0
  IsNeverKey l x = (y : Scalar) → IsOfKind l y → meaning y ≡ meaning x → ⊥

  pub never_key : (a b l : Kind) (x : Scalar) (d : Datum) (ds : Entries) (o : Option Holding) → IsNeverKey l x → MayHold (shape.Map l) b o → HoldsSame old new a b (shape.Map l) (map_of (entry x d ds)) o → ⊥
  never_key a b l x d ds None never may same = same
  never_key a b l x d ds (Some (one e)) never may same = same
  never_key a b l x d ds (Some (list es)) never may same = same
  never_key a b l x d ds (Some (map_of no_entries)) never may same = same
  never_key a b l x d ds (Some (map_of (entry y e es))) never may same = never y may.1.0.0 same.0
