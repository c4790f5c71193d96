-- What one more element makes of a message's fields, and when it is refused.
use Rattle.std.specs.Prelude.{◌≡◌, ◌≤◌, ℕ, List, [], ◌∷◌, Bool, true, false, nat_le, Option, Some, IsSomeAnd}
use Rattle.pb_schema.specs.declared.types.Kind.{Kind}
use Rattle.pb_schema.specs.declared.types.Shape.{Shape}
use Rattle.pb_schema.specs.declared.types.Shape.TheVariants as shape
use Rattle.pb_schema.specs.Types.{Types, message_fields, field_numbered}
use Rattle.pb_value.specs.Data.{Datum, Datums, no_datums, datum, Holding, one, list, Fields, get_field, put_field, joined_datums, levels_of}
use Rattle.pb_value.specs.Judge.{is_value_of}
use Rattle.pb_value.specs.WellFormed.{IsDatum, datum_declared}
use Rattle.pb_value.specs.Cause.{or_else, unless, at_field, declared_cause, datum_cause}
use Rattle.pb_value.specs.declared.error.ValueError.{ValueError}
use Rattle.pb_value.specs.declared.error.ValueError.TheVariants.{WrongKind, WrongShape, TooDeep}

-- the list that a field holds; where there is none it is empty
abbrev pub elements_of : Option Holding → Datums
elements_of (Some (list ds)) = ds
elements_of _ = no_datums

-- what a field then holds with d at the end of its list
abbrev pub pushed : Datum → Option Holding → Holding
pushed d h = list (joined_datums (elements_of h) (datum d no_datums))

-- the fields with d at the end of the list of number n
abbrev pub push_at : ℕ → Datum → Fields → Fields
push_at n d fs = put_field n (pushed d (get_field n fs)) fs

-- the fields with each of some at the end of the list of number n
abbrev pub push_each : ℕ → List Datum → Fields → Fields
push_each n [] fs = fs
push_each n (d ∷ ds) fs = push_each n ds (push_at n d fs)

abbrev pub is_list : Shape → Bool
is_list (shape.List _) = true
is_list shape.Implicit = false
is_list shape.Explicit = false
is_list (shape.OneofMember _) = false
is_list (shape.Map _) = false

-- a number that isn't declared, or what is wrong inside
abbrev pub element_cause : Types → Kind → Datum → Option ValueError
element_cause pool k d = or_else (declared_cause pool k (one d)) (datum_cause pool k d)

-- why a value cannot be pushed
abbrev pub push_cause : Types → ℕ → ℕ → Datum → Option ValueError
push_cause pool m n d =
    at_field (field_numbered n (message_fields pool m))
    (λ f. or_else (unless (is_value_of f.kind d) WrongKind) (or_else (unless (is_list f.shape) WrongShape)
    (or_else (element_cause pool f.kind d) (unless (nat_le (levels_of d) 100) TooDeep))))

-- the value can be an element of the list of number n
abbrev pub IsElement : Types → ℕ → ℕ → Datum → Type 0
IsElement pool m n d =
    IsSomeAnd (field_numbered n (message_fields pool m))
    (λ f. (is_list f.shape ≡ true) × IsDatum pool f.kind d × (levels_of d ≤ 100) × (datum_declared pool f.kind d ≡ true))
