-- Worked rows of files of proto2, computed.
use Rattle.std.proofs.Common.{◌≡◌, ℕ, pos, List, [], ◌∷◌, Bool, true, false, Option, Some, None, refl}
use Rattle.std.specs.Prelude.{codes, map}
use Rattle.pb_declarations.specs.declared.decl.TypeCode.{TypeCode}
use Rattle.pb_declarations.specs.declared.decl.TypeCode.TheVariants as code
use Rattle.pb_declarations.specs.Decls.{DeclaredField, message, messages_of, no_messages, DeclaredMessage, DeclaredEnum, DeclaredFile}
use Rattle.pb_link_rules.specs.declared.cause.LinkCause.TheVariants as cause
use Rattle.pb_schema.specs.declared.types.Kind.TheVariants as kind
use Rattle.pb_schema.specs.declared.types.Shape.TheVariants as shape
use Rattle.pb_schema.specs.Types.{Types}
use Rattle.pb_link.specs.EnumMaps.{file_without_maps}
use Rattle.pb_link.specs.PoolOf.{pool_of}
use Rattle.pb_link.specs.ToDecls.{decls_of}
use Rattle.pb_link.proofs.Samples.{int32, typed, in_message, enum_of, a_set, a_set_of_two, alone, told, told_by}

-- a field by its type number and the name of its type
abbrev coded : TypeCode → Option (List ℕ) → List ℕ → ℕ → DeclaredField
coded c ty name n = record { name = name; number = pos n; is_repeated = false; type_code = Some c; type_name = ty; packed = None; oneof = None; is_optional = false }

abbrev repeated : Option Bool → DeclaredField → DeclaredField
repeated packed f = record f { is_repeated = true; packed = packed }

-- message Q { optional int32 a = 1; repeated int32 e = 2; optional group G = 3 { optional int32 x = 1; } optional E k = 4;
-- repeated E l = 5 [packed = true]; } enum E { ONE = 1; TWO = 2; }, its group called g
abbrev q_set : List DeclaredFile
q_set = a_set_of_two (
    in_message (codes "Q") (
    int32 (codes "a") 1 ∷ repeated None (int32 (codes "e") 2) ∷ coded code.Group (Some (codes ".Q.G")) (codes "g") 3
    ∷ coded code.Enum (Some (codes ".E")) (codes "k") 4 ∷ repeated (Some true) (coded code.Enum (Some (codes ".E")) (codes "l") 5) ∷ [])
    (in_message (codes "G") (int32 (codes "x") 1 ∷ []) [] ∷ []) ∷ [])
    (enum_of (codes "E") ((codes "ONE", pos 1) ∷ (codes "TWO", pos 2) ∷ []) ∷ [])

q_links : told q_set ≡ None
q_links = refl

abbrev q_types : Types
q_types = record {
  files = record { name = codes "m"; package_name = []; imports = []; proto2 = true } ∷ [];
  messages =
      record {
        name = codes "Q";
        file = 0;
        parent = None;
        oneofs = [];
        fields =
            record { name = codes "a"; number = 1; kind = kind.Int32; shape = shape.Explicit }
            ∷ record { name = codes "e"; number = 2; kind = kind.Int32; shape = shape.List false }
            ∷ record { name = codes "g"; number = 3; kind = kind.Group (record { 0 = 1 }); shape = shape.Explicit }
            ∷ record { name = codes "k"; number = 4; kind = kind.ClosedEnum (record { 0 = 0 }); shape = shape.Explicit }
            ∷ record { name = codes "l"; number = 5; kind = kind.ClosedEnum (record { 0 = 0 }); shape = shape.List true } ∷ [];
      }
      ∷ record { name = codes "G"; file = 0; parent = Some 0; oneofs = []; fields = record { name = codes "x"; number = 1; kind = kind.Int32; shape = shape.Explicit } ∷ [] } ∷ [];
  enums = record { name = codes "E"; file = 0; parent = None; values = (codes "ONE", pos 1) ∷ (codes "TWO", pos 2) ∷ [] } ∷ [];
}

q_pool : pool_of q_set (alone q_set) ≡ q_types
q_pool = refl

-- and its declarations make it again
q_again_links : told (decls_of q_types) ≡ None
q_again_links = refl

q_again : pool_of (decls_of q_types) (alone (decls_of q_types)) ≡ q_types
q_again = refl

-- message P { E k = 1; } of proto3, with E of the file that it imports
p_closed : told_by (λ i j. true) (record { name = codes "p"; package_name = []; imports = codes "m" ∷ []; public_indexes = []; messages = messages_of (in_message (codes "P") (typed (codes "E") (codes "k") 1 ∷ []) [] ∷ []); enums = []; services = []; is_proto2 = false } ∷ q_set) ≡ Some (2, cause.ClosedEnum)
p_closed = refl

-- proto3_optional in a file of proto2
abbrev optional_messages : List DeclaredMessage
optional_messages = message (record { name = codes "M"; fields = record (int32 (codes "b") 1) { oneof = Some (pos 0); is_optional = true } ∷ []; enums = []; oneofs = codes "_b" ∷ []; reserved = []; reserved_names = []; is_entry = false }) no_messages ∷ []

optional_of_two : told (a_set_of_two optional_messages []) ≡ Some (2, cause.BadOneof)
optional_of_two = refl

optional_of_three : told (a_set optional_messages []) ≡ None
optional_of_three = refl

-- a field whose messages have these keys and values: a map field, or a list
abbrev entries_of : Bool → DeclaredField → DeclaredField → List DeclaredFile
entries_of is_map key value = a_set_of_two (
    message (record { name = codes "M"; fields = repeated None (coded code.Message (Some (codes ".M.AEntry")) (codes "a") 1) ∷ []; enums = []; oneofs = []; reserved = []; reserved_names = []; is_entry = false })
    (messages_of (
    message (record { name = codes "AEntry"; fields = key ∷ value ∷ []; enums = []; oneofs = []; reserved = []; reserved_names = []; is_entry = is_map }) no_messages ∷ [])) ∷ [])
    (enum_of (codes "E") ((codes "ONE", pos 1) ∷ []) ∷ [])

abbrev text_key : DeclaredField
text_key = coded code.Text None (codes "key") 1

-- a map field whose value is of this type
abbrev map_of : DeclaredField → List DeclaredFile
map_of = entries_of true text_key

map_of_group : told (map_of (coded code.Group (Some (codes ".M")) (codes "value") 2)) ≡ Some (3, cause.BadMap)
map_of_group = refl

map_of_message : told (map_of (coded code.Message (Some (codes ".M")) (codes "value") 2)) ≡ None
map_of_message = refl

map_of_closed : told (map_of (coded code.Enum (Some (codes ".E")) (codes "value") 2)) ≡ Some (5, cause.ClosedEnum)
map_of_closed = refl

-- an enum of proto2 has a first value, of any number
closed_first : told (a_set_of_two [] (enum_of (codes "E") ((codes "ONE", pos 1) ∷ []) ∷ [])) ≡ None
closed_first = refl

closed_without : told (a_set_of_two [] (enum_of (codes "E") [] ∷ [])) ≡ Some (1, cause.BadEnum)
closed_without = refl

open_first : told (a_set [] (enum_of (codes "E") ((codes "ONE", pos 1) ∷ []) ∷ [])) ≡ Some (1, cause.BadEnum)
open_first = refl

-- a GROUP means a message that is no entry, in a file of proto2
abbrev group_messages : Option (List ℕ) → List DeclaredMessage
group_messages name = in_message (codes "M") (coded code.Group name (codes "g") 1 ∷ []) [] ∷ []

abbrev an_enum : List DeclaredEnum
an_enum = enum_of (codes "E") ((codes "Z", pos 0) ∷ []) ∷ []

group_of_two : told (a_set_of_two (group_messages (Some (codes ".M"))) an_enum) ≡ None
group_of_two = refl

group_of_three : told (a_set (group_messages (Some (codes ".M"))) an_enum) ≡ Some (2, cause.KindMismatch)
group_of_three = refl

group_of_enum : told (a_set_of_two (group_messages (Some (codes ".E"))) an_enum) ≡ Some (2, cause.KindMismatch)
group_of_enum = refl

group_of_none : told (a_set_of_two (group_messages None) an_enum) ≡ Some (2, cause.KindMismatch)
group_of_none = refl

-- MAPS OF ENUMS, READ LENIENTLY

abbrev enum_value : DeclaredField
enum_value = coded code.Enum (Some (codes ".E")) (codes "value") 2

-- map<string, E> a = 1, in a file of proto2, is the list of its entries
map_of_enum_listed : map file_without_maps (map_of enum_value) ≡ entries_of false text_key enum_value
map_of_enum_listed = refl

-- in a file of proto3 it stays a map
abbrev of_three : List DeclaredFile → List DeclaredFile
of_three = map {A = DeclaredFile} (λ f. record f { is_proto2 = false })

map_of_three_kept : map file_without_maps (of_three (map_of enum_value)) ≡ of_three (map_of enum_value)
map_of_three_kept = refl

-- and so do maps whose values are numbers or messages, though their keys are of an enum
map_of_numbers_kept : map file_without_maps (map_of (int32 (codes "value") 2)) ≡ map_of (int32 (codes "value") 2)
map_of_numbers_kept = refl

map_by_enum_kept :
    map file_without_maps (entries_of true (coded code.Enum (Some (codes ".E")) (codes "key") 1) (int32 (codes "value") 2))
    ≡ entries_of true (coded code.Enum (Some (codes ".E")) (codes "key") 1) (int32 (codes "value") 2)
map_by_enum_kept = refl

-- a message that is no entry stays as it is
message_of_enum_kept : map file_without_maps (entries_of false text_key enum_value) ≡ entries_of false text_key enum_value
message_of_enum_kept = refl
