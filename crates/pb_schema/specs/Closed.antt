-- Records of closed enums: those with a number that the enum declares count, and each other one is unknown (language specification, proto2,
-- "Enumerations"; encoding guide, "Packed Repeated Fields").
use Rattle.std.specs.Prelude.{ℕ, ℤ, ◌%◌, ◌^◌, List, [], ◌∷◌, map, Bool, true, false, not, ◌&&◌, Option, Some, None, filter, flat_map}
use Rattle.std.specs.List.{list_any}
use Rattle.std.specs.Int.{cast_signed, w32}
use Rattle.std.specs.Ordering.{int_eq}
use Rattle.pb_wire.specs.Record.{Payload, varint, fixed64, len, group, fixed32, Record}
use Rattle.pb_schema.specs.declared.types.Kind.{Kind}
use Rattle.pb_schema.specs.declared.types.Shape.{Shape}
use Rattle.pb_schema.specs.declared.types.Shape.TheVariants as shape
use Rattle.pb_schema.specs.Types.{FieldView, Types, field_numbered}
use Rattle.pb_schema.specs.Scalar.{Scalar, int32, int64, uint32, uint64, boolean, float, double, enum, text, bytes}
use Rattle.pb_schema.specs.Kinds.{closed_enum}
use Rattle.pb_schema.specs.Packed.{numbers_of}
use Rattle.pb_schema.specs.EnumValues.{enum_values}
use Rattle.pb_schema.specs.Fits.{fits_any}

-- DECLARED NUMBERS

-- the enum declares a value with the number
abbrev pub declares : Types → ℕ → ℤ → Bool
declares pool e z = list_any (λ v. int_eq v.1 z) (enum_values pool e)

abbrev pub declares_number : Types → ℕ → Scalar → Bool
declares_number pool e (enum z) = declares pool e z
declares_number pool e (int32 z) = true
declares_number pool e (int64 z) = true
declares_number pool e (uint32 n) = true
declares_number pool e (uint64 n) = true
declares_number pool e (boolean b) = true
declares_number pool e (float n) = true
declares_number pool e (double n) = true
declares_number pool e (text s) = true
declares_number pool e (bytes s) = true

abbrev pub declares_in : Types → Option ℕ → Scalar → Bool
declares_in pool None x = true
declares_in pool (Some e) x = declares_number pool e x

-- of a closed enum the value has a number that the enum declares
abbrev pub is_declared : Types → Kind → Scalar → Bool
is_declared pool k x = declares_in pool (closed_enum k) x

-- RECORDS

-- the closed enum of the values of a field; a map has entries
abbrev pub closed_shaped : Shape → Kind → Option ℕ
closed_shaped (shape.Map _) k = None
closed_shaped (shape.List _) k = closed_enum k
closed_shaped shape.Explicit k = closed_enum k
closed_shaped shape.Implicit k = closed_enum k
closed_shaped (shape.OneofMember _) k = closed_enum k

abbrev pub closed_of : Option FieldView → Option ℕ
closed_of None = None
closed_of (Some f) = closed_shaped f.shape f.kind

abbrev pub is_list : Shape → Bool
is_list (shape.List _) = true
is_list (shape.Map _) = false
is_list shape.Explicit = false
is_list shape.Implicit = false
is_list (shape.OneofMember _) = false

abbrev pub is_list_field : Option FieldView → Bool
is_list_field None = false
is_list_field (Some f) = is_list f.shape

-- a number of a closed enum that doesn't declare it
abbrev pub is_undeclared : Types → Option ℕ → Payload → Bool
is_undeclared pool None p = false
is_undeclared pool (Some e) (varint n) = not (declares pool e (cast_signed w32 (n % 2 ^ 32)))
is_undeclared pool (Some e) (fixed64 n) = false
is_undeclared pool (Some e) (len s) = false
is_undeclared pool (Some e) (group g) = false
is_undeclared pool (Some e) (fixed32 n) = false

-- numbers as records of a number
abbrev pub numbered : ℕ → List Payload → List Record
numbered n ps = map (λ p. record { number = n; payload = p }) ps

-- the elements of a packed list of a closed enum are records of their own; any other record is itself
abbrev pub cut_as : Bool → Option ℕ → ℕ → Payload → List Record
cut_as true (Some e) n (len s) = numbered n (numbers_of 0 s)
cut_as true (Some e) n (varint i) = record { number = n; payload = varint i } ∷ []
cut_as true (Some e) n (fixed64 i) = record { number = n; payload = fixed64 i } ∷ []
cut_as true (Some e) n (group g) = record { number = n; payload = group g } ∷ []
cut_as true (Some e) n (fixed32 i) = record { number = n; payload = fixed32 i } ∷ []
cut_as true None n p = record { number = n; payload = p } ∷ []
cut_as false e n p = record { number = n; payload = p } ∷ []

abbrev pub cut_at : Option FieldView → Record → List Record
cut_at f r = cut_as (is_list_field f) (closed_of f) r.number r.payload

-- records in their order, each packed list of a closed enum in its place cut into its elements
abbrev pub settled : List FieldView → List Record → List Record
settled fs rs = flat_map (λ r. cut_at (field_numbered r.number fs) r) rs

-- the record fits a field, and has a number that the field's enum declares where that is closed
abbrev pub counts : Types → List FieldView → Record → Bool
counts pool fs r = fits_any fs r && not (is_undeclared pool (closed_of (field_numbered r.number fs)) r.payload)

-- the records that count for fields, and those that don't
abbrev pub known : Types → List FieldView → List Record → List Record
known pool fs rs = filter (counts pool fs) (settled fs rs)

abbrev pub unknown : Types → List FieldView → List Record → List Record
unknown pool fs rs = filter (λ r. not (counts pool fs r)) (settled fs rs)
