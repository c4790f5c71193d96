-- Values that may be the content of a field, and keys of its map.
use Rattle.std.proofs.Common.{◌≡◌, Bool, true, false, not, Option, Some, None, IfSome, IsSomeAnd, refl, ◌∙◌, subst}
use Rattle.std.specs.Prelude.{IsTrue, is_some, option_map}
use Rattle.pb_schema.specs.declared.types.Kind.{Kind}
use Rattle.pb_schema.specs.declared.types.Kind.TheVariants as kind
use Rattle.pb_schema.specs.declared.types.Shape.{Shape}
use Rattle.pb_schema.specs.declared.types.Shape.TheVariants as shape
use Rattle.pb_schema.specs.Kinds.{is_key_kind}
use Rattle.pb_schema.specs.Scalar.{Scalar, int32, int64, uint32, uint64, boolean, text}
use Rattle.pb_schema.specs.Types.{FieldView, Types}
use Rattle.pb_value.specs.Data.{Datum, scalar, message, one}
use Rattle.pb_value.specs.Judge.Forms.{is_default_datum}
use Rattle.pb_value.specs.View.{key_view}
use Rattle.pb_value.specs.WellFormed.{IsOfShape, IsDatum}
use Rattle.pb_value.specs.declared.body.MapKey.{MapKey}
use Rattle.pb_compat.specs.Fields.{is_list, is_map}
use Rattle.pb_compat.specs.Samples.{IsValue, is_key_value}
use Rattle.pb_compat.specs.Witness.{may_fill, IsKeyOf, IsSettable}

-- KEYS

key_value : (pool : Types) (key : Kind) (v : Datum) → IsTrue (is_key_kind key) → IsDatum pool key v → is_key_value v ≡ true
key_value pool kind.Int32 (scalar (int32 z)) can h = refl
key_value pool kind.Sint32 (scalar (int32 z)) can h = refl
key_value pool kind.Sfixed32 (scalar (int32 z)) can h = refl
key_value pool kind.Int64 (scalar (int64 z)) can h = refl
key_value pool kind.Sint64 (scalar (int64 z)) can h = refl
key_value pool kind.Sfixed64 (scalar (int64 z)) can h = refl
key_value pool kind.Uint32 (scalar (uint32 n)) can h = refl
key_value pool kind.Fixed32 (scalar (uint32 n)) can h = refl
key_value pool kind.Uint64 (scalar (uint64 n)) can h = refl
key_value pool kind.Fixed64 (scalar (uint64 n)) can h = refl
key_value pool kind.Bool (scalar (boolean b)) can h = refl
key_value pool kind.Text (scalar (text s)) can h = refl
key_value pool kind.Double v can h = absurd (cc)
key_value pool kind.Float v can h = absurd (cc)
key_value pool kind.Bytes v can h = absurd (cc)
key_value pool (kind.Enum e) v can h = absurd (cc)
key_value pool (kind.ClosedEnum e) v can h = absurd (cc)
key_value pool (kind.Message m) v can h = absurd (cc)
key_value pool (kind.Group m) v can h = absurd (cc)
key_value pool key (scalar x) can h = absurd h
key_value pool key (message b) can h = absurd h

-- a value of a kind of keys is a key
pub key_made : (pool : Types) (key : Kind) (v : Datum) (o : Option MapKey) → IsTrue (is_key_kind key) → IsValue pool key v → IfSome o (λ k. v ≡ scalar (key_view k)) → is_some o ≡ is_key_value v
    → IsSomeAnd (option_map key_view o) (λ x. IsValue pool key (scalar x))
key_made pool key v (Some k) can value same exact = subst (IsValue pool key) same value
key_made pool key v None can value same exact = absurd (clash (exact ∙ key_value pool key v can value.value))
  where
    clash : false ≡ true → ⊥
    clash e = cc

pub some_key : (o : Option MapKey) (P : Scalar → Type 0) → IsSomeAnd (option_map key_view o) P → is_some o ≡ true
some_key None P h = absurd h
some_key (Some k) P h = refl

-- CONTENTS

not_default : (b : Bool) → b ≡ false → not b ≡ true
not_default true e = absurd (cc)
not_default false e = refl

-- a value of a field, which is no default where its kind is no closed enum
pub fills : (pool : Types) (f : FieldView) (s : Shape) (d : Datum) (o : Option MapKey) → f.shape ≡ s → IsSettable pool f → (s ≡ shape.Implicit → is_default_datum d ≡ false) → IsKeyOf pool s (option_map key_view o) → may_fill s (is_some o) d ≡ true
fills pool f shape.Implicit d o e own other keyed = not_default (is_default_datum d) (other refl)
fills pool f shape.Explicit d o e own other keyed = refl
fills pool f (shape.OneofMember i) d o e own other keyed = refl
fills pool f (shape.List p) d o e own other keyed = refl
fills pool f (shape.Map key) d o e own other keyed = some_key o (λ x. IsValue pool key (scalar x)) keyed

-- one value, where the shape is no list, and no map of which there is a key
pub one_shaped : (s : Shape) (keyed : Bool) (d : Datum) → may_fill s keyed d ≡ true → is_list s ≡ false → (is_map s ≡ true → keyed ≡ false) → IsOfShape s (one d)
one_shaped shape.Implicit keyed d may list map = turned (is_default_datum d) may
  where
    turned : (b : Bool) → not b ≡ true → b ≡ false
    turned true e = absurd (cc)
    turned false e = refl
one_shaped shape.Explicit keyed d may list map = tt
one_shaped (shape.OneofMember o) keyed d may list map = tt
one_shaped (shape.List p) keyed d may list map = absurd (cc)
one_shaped (shape.Map key) keyed d may list map = absurd (let no = map refl in cc)
