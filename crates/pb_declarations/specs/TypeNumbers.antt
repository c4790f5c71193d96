-- The numbers of the types of fields (descriptor.proto, `FieldDescriptorProto.Type`).
use Rattle.std.specs.Prelude.{ℕ, zero, suc, ℤ, pos, negsuc, List, [], ◌∷◌, Option, None, slice_get}
use Rattle.pb_declarations.specs.declared.decl.TypeCode.{TypeCode}
use Rattle.pb_declarations.specs.declared.decl.TypeCode.TheVariants as code

abbrev pub number_of_type : TypeCode → ℕ
number_of_type code.Double = 1
number_of_type code.Float = 2
number_of_type code.Int64 = 3
number_of_type code.Uint64 = 4
number_of_type code.Int32 = 5
number_of_type code.Fixed64 = 6
number_of_type code.Fixed32 = 7
number_of_type code.Bool = 8
number_of_type code.Text = 9
number_of_type code.Group = 10
number_of_type code.Message = 11
number_of_type code.Bytes = 12
number_of_type code.Uint32 = 13
number_of_type code.Enum = 14
number_of_type code.Sfixed32 = 15
number_of_type code.Sfixed64 = 16
number_of_type code.Sint32 = 17
number_of_type code.Sint64 = 18

-- the types of fields by their numbers, from 1 on
abbrev pub type_codes : List TypeCode
type_codes =
    code.Double ∷ code.Float ∷ code.Int64 ∷ code.Uint64 ∷ code.Int32 ∷ code.Fixed64 ∷ code.Fixed32 ∷ code.Bool ∷ code.Text
    ∷ code.Group ∷ code.Message ∷ code.Bytes ∷ code.Uint32 ∷ code.Enum ∷ code.Sfixed32 ∷ code.Sfixed64 ∷ code.Sint32 ∷ code.Sint64 ∷ []

abbrev pub type_of_number : ℤ → Option TypeCode
type_of_number (pos zero) = None
type_of_number (pos (suc n)) = slice_get type_codes n
type_of_number (negsuc n) = None
