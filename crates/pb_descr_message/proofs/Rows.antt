-- Worked rows, computed: sets as bytes, the declarations that they stand for, and the sets that declarations are written as.
use Rattle.std.proofs.Common.{◌≡◌, ℕ, ℤ, pos, List, [], ◌∷◌, true, false, Some, None, refl}
use Rattle.std.specs.Prelude.{codes}
use Rattle.pb_wire.specs.Varint.{shortest, shortest_within}
use Rattle.pb_wire.specs.Inside.{records_spelled, front_within, first_varint, after_varint, named_length}
use Rattle.pb_declarations.specs.declared.decl.TypeCode.TheVariants as code
use Rattle.pb_descr_message.specs.declared.cause.DeclCause.{DeclCause}
use Rattle.pb_descr_message.specs.declared.cause.DeclCause.TheVariants as cause
use Rattle.pb_declarations.specs.Decls.{DeclaredField, message as declared_message, messages_of, DeclaredFile}
use Rattle.pb_schema.specs.Scalar.{int32, text}
use Rattle.pb_value.specs.Data.{Datum, scalar, message, no_datums, datum, one, list, Fields, no_fields, field, Message, body}
use Rattle.pb_value.specs.Value.{value, value_within}
use Rattle.pb_descr_message.specs.Pool.{the_set, descriptor_types}
use Rattle.pb_descr_message.specs.Reading.{files_in}
use Rattle.pb_descr_message.specs.Causes.{field_causes, file_causes, set_causes}
use Rattle.pb_descr_message.specs.Sets.{set_bytes}

abbrev the_set_of : List ℕ → Message
the_set_of b = value descriptor_types the_set (records_spelled b)

-- syntax = "proto3"; message M { int32 a = 1; }, in m.proto, or optional
abbrev plain : DeclaredField
plain = record { name = codes "a"; number = pos 1; is_repeated = false; type_code = Some code.Int32; type_name = None; packed = None; oneof = None; is_optional = false }

abbrev optional : DeclaredField
optional = record { name = codes "a"; number = pos 1; is_repeated = false; type_code = Some code.Int32; type_name = None; packed = None; oneof = Some (pos 0); is_optional = true }

abbrev set_with : DeclaredField → List (List ℕ) → List DeclaredFile
set_with f oneofs = record { name = codes "m.proto"; package_name = []; imports = []; public_indexes = []; messages = messages_of (declared_message (record { name = codes "M"; fields = f ∷ []; enums = []; oneofs = oneofs; reserved = []; reserved_names = []; is_entry = false }) (messages_of []) ∷ []); enums = []; services = []; is_proto2 = false } ∷ []

plain_bytes : set_bytes (set_with plain []) ≡ 0x0a ∷ 0x21 ∷ 0x0a ∷ 0x07 ∷ 0x6d ∷ 0x2e ∷ 0x70 ∷ 0x72 ∷ 0x6f ∷ 0x74 ∷ 0x6f ∷ 0x22 ∷ 0x0e ∷ 0x0a ∷ 0x01 ∷ 0x4d ∷ 0x12 ∷ 0x09 ∷ 0x0a ∷ 0x01 ∷ 0x61 ∷ 0x18 ∷ 0x01 ∷ 0x20 ∷ 0x01 ∷ 0x28 ∷ 0x05 ∷ 0x62 ∷ 0x06 ∷ 0x70 ∷ 0x72 ∷ 0x6f ∷ 0x74 ∷ 0x6f ∷ 0x33 ∷ []
unfolding value value_within records_spelled front_within first_varint after_varint named_length shortest shortest_within
plain_bytes = refl

optional_bytes : set_bytes (set_with optional (codes "_a" ∷ [])) ≡ 0x0a ∷ 0x2c ∷ 0x0a ∷ 0x07 ∷ 0x6d ∷ 0x2e ∷ 0x70 ∷ 0x72 ∷ 0x6f ∷ 0x74 ∷ 0x6f ∷ 0x22 ∷ 0x19 ∷ 0x0a ∷ 0x01 ∷ 0x4d ∷ 0x12 ∷ 0x0e ∷ 0x0a ∷ 0x01 ∷ 0x61 ∷ 0x18 ∷ 0x01 ∷ 0x20 ∷ 0x01 ∷ 0x28 ∷ 0x05 ∷ 0x48 ∷ 0x00 ∷ 0x88 ∷ 0x01 ∷ 0x01 ∷ 0x42 ∷ 0x04 ∷ 0x0a ∷ 0x02 ∷ 0x5f ∷ 0x61 ∷ 0x62 ∷ 0x06 ∷ 0x70 ∷ 0x72 ∷ 0x6f ∷ 0x74 ∷ 0x6f ∷ 0x33 ∷ []
unfolding value value_within records_spelled front_within first_varint after_varint named_length shortest shortest_within
optional_bytes = refl

-- a set with `json_name`, as the usual compiler writes it
abbrev with_json_name : List ℕ
with_json_name = 0x0a ∷ 0x24 ∷ 0x0a ∷ 0x07 ∷ 0x6d ∷ 0x2e ∷ 0x70 ∷ 0x72 ∷ 0x6f ∷ 0x74 ∷ 0x6f ∷ 0x22 ∷ 0x11 ∷ 0x0a ∷ 0x01 ∷ 0x4d ∷ 0x12 ∷ 0x0c ∷ 0x0a ∷ 0x01 ∷ 0x61 ∷ 0x18 ∷ 0x01 ∷ 0x20 ∷ 0x01 ∷ 0x28 ∷ 0x05 ∷ 0x52 ∷ 0x01 ∷ 0x61 ∷ 0x62 ∷ 0x06 ∷ 0x70 ∷ 0x72 ∷ 0x6f ∷ 0x74 ∷ 0x6f ∷ 0x33 ∷ []

json_name_read : files_in (the_set_of with_json_name) ≡ set_with plain []
unfolding value value_within records_spelled front_within first_varint after_varint named_length shortest shortest_within
json_name_read = refl

json_name_passes : set_causes (the_set_of with_json_name) ≡ []
unfolding value value_within records_spelled front_within first_varint after_varint named_length shortest shortest_within
json_name_passes = refl

-- an empty file has no name
nameless : set_causes (the_set_of (0x0a ∷ 0x00 ∷ [])) ≡ (0, cause.MissingName) ∷ []
unfolding value value_within records_spelled front_within first_varint after_varint named_length shortest shortest_within
nameless = refl

-- a file without a syntax is one of proto2
abbrev two_file : List DeclaredFile
two_file = record { name = codes "q"; package_name = []; imports = []; public_indexes = []; messages = messages_of []; enums = []; services = []; is_proto2 = true } ∷ []

no_syntax : set_causes (the_set_of (0x0a ∷ 0x03 ∷ 0x0a ∷ 0x01 ∷ 0x71 ∷ [])) ≡ []
unfolding value value_within records_spelled front_within first_varint after_varint named_length shortest shortest_within
no_syntax = refl

no_syntax_read : files_in (the_set_of (0x0a ∷ 0x03 ∷ 0x0a ∷ 0x01 ∷ 0x71 ∷ [])) ≡ two_file
unfolding value value_within records_spelled front_within first_varint after_varint named_length shortest shortest_within
no_syntax_read = refl

no_syntax_written : set_bytes two_file ≡ 0x0a ∷ 0x03 ∷ 0x0a ∷ 0x01 ∷ 0x71 ∷ []
unfolding value value_within records_spelled front_within first_varint after_varint named_length shortest shortest_within
no_syntax_written = refl

-- CAUSES OF MESSAGES THAT ARE GIVEN AS FIELDS, in the order in which they are reported

abbrev named : List ℕ → Fields → Datum
named name fs = message (body (field 1 (one (scalar (text name))) fs) [])

-- a file `m` of proto3 with one message
abbrev file_of : Datum → Datum
file_of m = named (codes "m") (field 4 (list (datum m no_datums)) (field 12 (one (scalar (text (codes "proto3")))) no_fields))

abbrev number_at : ℕ → ℤ → Fields → Fields
number_at n z fs = field n (one (scalar (int32 z))) fs

abbrev text_at : ℕ → List ℕ → Fields → Fields
text_at n s fs = field n (one (scalar (text s))) fs

abbrev field_alone : Fields → List DeclCause
field_alone fs = field_causes false (named (codes "a") fs)

a_good_field : field_alone (number_at 4 (pos 3) (number_at 5 (pos 5) no_fields)) ≡ []
a_good_field = refl

-- a type name stands for a type; an empty one is a type name
by_type_name : field_alone (text_at 6 [] no_fields) ≡ []
by_type_name = refl

no_type : field_alone no_fields ≡ cause.BadTypeNumber ∷ []
no_type = refl

-- a type name does not excuse a number that is none
bad_type : field_alone (number_at 5 (pos 19) (text_at 6 (codes "M") no_fields)) ≡ cause.BadTypeNumber ∷ []
bad_type = refl

type_zero : field_alone (number_at 5 (pos 0) no_fields) ≡ cause.BadTypeNumber ∷ []
type_zero = refl

bad_label : field_alone (number_at 4 (pos 4) (number_at 5 (pos 5) no_fields)) ≡ cause.BadLabel ∷ []
bad_label = refl

-- what only proto2 has, also where it is empty
all_of_proto2 : field_alone (text_at 2 [] (number_at 4 (pos 2) (number_at 5 (pos 10) (text_at 7 [] no_fields)))) ≡ cause.Extension ∷ cause.Required ∷ cause.Group ∷ cause.DefaultValue ∷ []
all_of_proto2 = refl

-- a group may stand in a file of proto2, the others may not
group_of_proto2 : field_causes true (named (codes "a") (text_at 2 [] (number_at 4 (pos 2) (number_at 5 (pos 10) (text_at 7 [] no_fields))))) ≡ cause.Extension ∷ cause.Required ∷ cause.DefaultValue ∷ []
group_of_proto2 = refl

abbrev with_syntax : List ℕ → List DeclCause
with_syntax s = file_causes (named (codes "m") (field 12 (one (scalar (text s))) no_fields))

syntax_empty : with_syntax [] ≡ []
syntax_empty = refl

syntax_proto2 : with_syntax (codes "proto2") ≡ []
syntax_proto2 = refl

syntax_other : with_syntax (codes "editions") ≡ cause.NotProto3 ∷ []
syntax_other = refl

-- a message comes before its fields, and these before its oneofs, its nested messages and its enums
order_inside :
    file_causes
    (file_of (message (body
    (field 2 (list (datum (named (codes "a") no_fields) no_datums))
    (field 3 (list (datum (message (body no_fields [])) no_datums))
    (field 4 (list (datum (named (codes "E") (field 2 (list (datum (message (body no_fields [])) no_datums)) no_fields)) no_datums))
    (field 5 (list (datum (message (body no_fields [])) no_datums))
    (field 8 (list (datum (message (body no_fields [])) no_datums)) no_fields))))) [])))
    ≡ cause.MissingName ∷ cause.Extension ∷ cause.BadTypeNumber ∷ cause.MissingName ∷ cause.MissingName ∷ cause.MissingName ∷ []
order_inside = refl

-- the cause of a nested message is reported after those of the message's fields
nested_behind_fields :
    file_causes
    (file_of (named (codes "M")
    (field 2 (list (datum (named (codes "a") (number_at 4 (pos 0) (number_at 5 (pos 5) no_fields))) no_datums))
    (field 3 (list (datum (named (codes "N") (field 2 (list (datum (named (codes "b") no_fields) no_datums)) no_fields)) no_datums)) no_fields))))
    ≡ cause.BadLabel ∷ cause.BadTypeNumber ∷ []
nested_behind_fields = refl
