-- Which fields are members of a oneof (encoding guide, "Oneofs"; language specification, "Oneof").
use Rattle.std.specs.Prelude.{ℕ, Bool, false, ◌==◌, List, map, filter}
use Rattle.pb_schema.specs.declared.types.Shape.{Shape}
use Rattle.pb_schema.specs.declared.types.Shape.TheVariants as shape
use Rattle.pb_schema.specs.Types.{FieldView}

abbrev pub is_member : ℕ → Shape → Bool
is_member o (shape.OneofMember p) = o == p
is_member o shape.Explicit = false
is_member o shape.Implicit = false
is_member o (shape.List _) = false
is_member o (shape.Map _) = false

-- the members among some fields, in their order
abbrev pub members : ℕ → List FieldView → List FieldView
members o fs = filter (λ f. is_member o f.shape) fs

abbrev pub member_numbers : ℕ → List FieldView → List ℕ
member_numbers o fs = map (λ f. f.number) (members o fs)
