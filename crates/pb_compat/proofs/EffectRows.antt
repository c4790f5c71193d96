-- Worked cases of what differences that do not break do to messages.
use Rattle.std.proofs.Common.{◌≡◌, ℕ, pos, [], ◌∷◌, true, Option, Some, None, refl}
use Rattle.pb_wire.specs.Record.{Record, varint}
use Rattle.pb_schema.specs.declared.types.Kind.{Kind}
use Rattle.pb_schema.specs.declared.types.Kind.TheVariants as kind
use Rattle.pb_schema.specs.declared.types.Shape.{Shape}
use Rattle.pb_schema.specs.declared.types.Shape.TheVariants as shape
use Rattle.pb_schema.specs.Types.{FieldView, Types}
use Rattle.pb_schema.specs.Scalar.{int32, int64, boolean}
use Rattle.pb_value.specs.Data.{scalar, message, empty, Holding, one, no_fields, field, body}
use Rattle.pb_value.specs.Value.{value, value_within}
use Rattle.pb_compat.specs.Effects.{numbered, PassesOn, read_at, default_datum, DropsDefaults}

none_some : {x : Holding} → ◌≡◌ {A = Option Holding} (Some x) None → ⊥
none_some p = cc

abbrev number : ℕ → ℕ → Record
number k n = record { number = k; payload = varint n }

abbrev a_field : Kind → Shape → FieldView
a_field k s = record { name = []; number = 1; kind = k; shape = s }

abbrev pool_of : FieldView → Types
pool_of f = record { files = []; messages = record { name = []; file = 0; parent = None; fields = f ∷ []; oneofs = [] } ∷ []; enums = [] }

-- message M { int32 a = 1; }, and with `optional`, and of another kind
abbrev implicit : Types
implicit = pool_of (a_field kind.Int32 shape.Implicit)

abbrev explicit : Types
explicit = pool_of (a_field kind.Int32 shape.Explicit)

abbrev wide : Types
wide = pool_of (a_field kind.Int64 shape.Explicit)

-- RECORDS OF A NUMBER

of_three : numbered 3 (number 3 1 ∷ number 5 2 ∷ number 3 4 ∷ []) ≡ number 3 1 ∷ number 3 4 ∷ []
of_three = refl

of_no_record : numbered 4 (number 3 1 ∷ []) ≡ []
of_no_record = refl

-- a type that declares the field holds its record
declared_is_held : PassesOn explicit 0 1 → ⊥
unfolding value value_within
declared_is_held p = none_some (p.unheld (number 1 7 ∷ []))

-- WHAT IS READ

read_wider : read_at explicit wide 0 0 1 (body (field 1 (one (scalar (int32 (pos 7)))) no_fields) []) ≡ Some (one (scalar (int64 (pos 7))))
unfolding value value_within
read_wider = refl

-- DEFAULTS

default_of_bool : default_datum kind.Bool ≡ scalar (boolean true) → ⊥
default_of_bool e = cc

empty_message : default_datum (kind.Message (record { 0 = 3 })) ≡ message empty
empty_message = refl

zero_is_kept : read_at explicit wide 0 0 1 (body (field 1 (one (scalar (int32 (pos 0)))) no_fields) []) ≡ Some (one (scalar (int64 (pos 0))))
unfolding value value_within
zero_is_kept = refl

zero_is_left : read_at explicit implicit 0 0 1 (body (field 1 (one (scalar (int32 (pos 0)))) no_fields) []) ≡ None
unfolding value value_within
zero_is_left = refl

-- a field that records whether it is set drops no default
explicit_drops_none : DropsDefaults explicit explicit 0 0 1 (a_field kind.Int32 shape.Explicit) (a_field kind.Int32 shape.Explicit) → ⊥
unfolding value value_within
explicit_drops_none d = none_some (d.some refl).1
