-- Worked rows, computed.
use Rattle.std.proofs.Common.{◌≡◌, ℕ, ℤ, pos, List, [], ◌∷◌, Bool, true, false, Some, None, refl, lit<}
use Rattle.std.specs.Prelude.{codes, ◌==◌, ◌||◌, ◌+◌, ◌++◌}
use Rattle.pb_declarations.specs.declared.decl.TypeCode.TheVariants as code
use Rattle.pb_declarations.specs.Decls.{DeclaredField, message, messages_of, no_messages, DeclaredMethod, DeclaredFile}
use Rattle.pb_link_rules.specs.declared.cause.LinkCause.TheVariants as cause
use Rattle.pb_schema.specs.declared.types.Kind.TheVariants as kind
use Rattle.pb_schema.specs.declared.types.Shape.TheVariants as shape
use Rattle.pb_schema.specs.Types.{Types}
use Rattle.pb_schema.specs.Imports.{Reaches, directly, further}
use Rattle.pb_link_names.specs.Declarations.{declarations}
use Rattle.pb_link_names.specs.Sees.{files_of}
use Rattle.pb_link_rules.specs.Link.{first_fault}
use Rattle.pb_link.specs.PoolOf.{pool_of}
use Rattle.pb_link.specs.ToDecls.{decls_of}
use Rattle.pb_link.proofs.Samples.{int32, typed, in_message, enum_of, a_set, alone, told, told_by}

-- message M { int32 a = 1; }
links : told (a_set (in_message (codes "M") (int32 (codes "a") 1 ∷ []) [] ∷ []) []) ≡ None
links = refl

-- message A { } enum A { Z = 0; }
taken_by_message : told (a_set (in_message (codes "A") [] [] ∷ []) (enum_of (codes "A") ((codes "Z", pos 0) ∷ []) ∷ [])) ≡ Some (2, cause.NameTaken)
taken_by_message = refl

-- enum X { Z = 0; } enum Y { Z = 0; }
taken_by_value : told (a_set [] (enum_of (codes "X") ((codes "Z", pos 0) ∷ []) ∷ enum_of (codes "Y") ((codes "Z", pos 0) ∷ []) ∷ [])) ≡ Some (4, cause.NameTaken)
taken_by_value = refl

-- message M { int32 a = 1; a f = 2; }
field_as_type : told (a_set (in_message (codes "M") (int32 (codes "a") 1 ∷ typed (codes "a") (codes "f") 2 ∷ []) [] ∷ []) []) ≡ Some (3, cause.NotAType)
field_as_type = refl

-- message M { int32 a = 536870912; }
greatest_number : told (a_set (in_message (codes "M") (int32 (codes "a") 536870911 ∷ []) [] ∷ []) []) ≡ None
greatest_number = refl

number_too_great : told (a_set (in_message (codes "M") (int32 (codes "a") 536870912 ∷ []) [] ∷ []) []) ≡ Some (2, cause.BadNumber)
number_too_great = refl

-- message M { int32 a = 1; int32 b = 1; }
number_taken : told (a_set (in_message (codes "M") (int32 (codes "a") 1 ∷ int32 (codes "b") 1 ∷ []) [] ∷ []) []) ≡ Some (3, cause.NumberTaken)
number_taken = refl

-- enum E { A = 0; B = 0; }
value_taken : told (a_set [] (enum_of (codes "E") ((codes "A", pos 0) ∷ (codes "B", pos 0) ∷ []) ∷ [])) ≡ Some (3, cause.NumberTaken)
value_taken = refl

-- message M { reserved 2 to 4; int32 y = 4; }
reserved_number : told (a_set (message (record { name = codes "M"; fields = int32 (codes "y") 4 ∷ []; enums = []; oneofs = []; reserved = (pos 2, pos 5) ∷ []; reserved_names = []; is_entry = false }) no_messages ∷ []) []) ≡ Some (2, cause.Reserved)
reserved_number = refl

-- message M { oneof o { } }
empty_oneof : told (a_set (message (record { name = codes "M"; fields = []; enums = []; oneofs = codes "o" ∷ []; reserved = []; reserved_names = []; is_entry = false }) no_messages ∷ []) []) ≡ Some (2, cause.BadOneof)
empty_oneof = refl

-- map<string, int32> a = 1, with these names of the fields of its entry
abbrev map_set : List ℕ → List ℕ → List ℕ → List DeclaredFile
map_set field key value = a_set (
    message (record { name = codes "M"; fields = record { name = field; number = pos 1; is_repeated = true; type_code = Some code.Message; type_name = Some (codes ".M.AEntry"); packed = None; oneof = None; is_optional = false } ∷ []; enums = []; oneofs = []; reserved = []; reserved_names = []; is_entry = false })
    (messages_of (
    message (record {
      name = codes "AEntry";
      fields = record { name = key; number = pos 1; is_repeated = false; type_code = Some code.Text; type_name = None; packed = None; oneof = None; is_optional = false } ∷ int32 value 2 ∷ [];
      enums = [];
      oneofs = [];
      reserved = [];
      reserved_names = [];
      is_entry = true;
    }) no_messages ∷ [])) ∷ []) []

map_links : told (map_set (codes "a") (codes "key") (codes "value")) ≡ None
map_links = refl

wrong_value_name : told (map_set (codes "a") (codes "key") (codes "val")) ≡ Some (3, cause.BadMap)
wrong_value_name = refl

wrong_field_name : told (map_set (codes "b") (codes "key") (codes "value")) ≡ Some (2, cause.BadMap)
wrong_field_name = refl

-- message M { int32 a = 1 [packed = true]; }
packed_alone : told (a_set (in_message (codes "M") (record { name = codes "a"; number = pos 1; is_repeated = false; type_code = Some code.Int32; type_name = None; packed = Some true; oneof = None; is_optional = false } ∷ []) [] ∷ []) []) ≡ Some (2, cause.BadPacked)
packed_alone = refl

-- enum E { A = 1; }, enum E { }
begins_at_one : told (a_set [] (enum_of (codes "E") ((codes "A", pos 1) ∷ []) ∷ [])) ≡ Some (1, cause.BadEnum)
begins_at_one = refl

no_value : told (a_set [] (enum_of (codes "E") [] ∷ [])) ≡ Some (1, cause.BadEnum)
no_value = refl

-- enum E { Z = 0; } message M { } service S { rpc r(E) returns (M); }
enum_as_input : told (record { name = codes "m"; package_name = []; imports = []; public_indexes = []; messages = messages_of (in_message (codes "M") [] [] ∷ []); enums = enum_of (codes "E") ((codes "Z", pos 0) ∷ []) ∷ []; services = record { name = codes "S"; methods = record { name = codes "r"; input = codes "E"; output = codes "M"; client_streams = false; server_streams = false } ∷ [] } ∷ []; is_proto2 = false } ∷ []) ≡ Some (5, cause.KindMismatch)
enum_as_input = refl

-- message M { reserved 5 to 4; }
empty_range : told (a_set (message (record { name = codes "M"; fields = []; enums = []; oneofs = []; reserved = (pos 5, pos 5) ∷ []; reserved_names = []; is_entry = false }) no_messages ∷ []) []) ≡ Some (1, cause.BadRange)
empty_range = refl

-- a field named `a-b`
no_word : told (a_set (in_message (codes "M") (int32 (codes "a-b") 1 ∷ []) [] ∷ []) []) ≡ Some (2, cause.BadName)
no_word = refl

-- package p; message q { } message M { message p { } p.q f = 1; }
abbrev shadowed : List ℕ → List DeclaredFile
shadowed ty = record { name = codes "x"; package_name = codes "p"; imports = []; public_indexes = []; messages = messages_of (in_message (codes "q") [] [] ∷ in_message (codes "M") (typed ty (codes "f") 1 ∷ []) (in_message (codes "p") [] [] ∷ []) ∷ []); enums = []; services = []; is_proto2 = false } ∷ []

inner_scope_decides : told (shadowed (codes "p.q")) ≡ Some (3, cause.NotFound)
inner_scope_decides = refl

leading_dot : told (shadowed (codes ".p.q")) ≡ None
leading_dot = refl

-- package p; message p { message X { } } message M { p.X f = 1; }
abbrev same_name : List ℕ → List DeclaredFile
same_name ty = record { name = codes "x"; package_name = codes "p"; imports = []; public_indexes = []; messages = messages_of (in_message (codes "p") [] (in_message (codes "X") [] [] ∷ []) ∷ in_message (codes "M") (typed ty (codes "f") 1 ∷ []) [] ∷ []); enums = []; services = []; is_proto2 = false } ∷ []

message_in_package : told (same_name (codes "p.X")) ≡ None
message_in_package = refl

no_further_scope : told (same_name (codes "p.p.X")) ≡ Some (4, cause.NotFound)
no_further_scope = refl

-- a: import "b"; message A { C f = 1; }, b: import "c", publicly or not, c: message C { }
abbrev three_files : List ℤ → List DeclaredFile
three_files shown =
    record { name = codes "a"; package_name = []; imports = codes "b" ∷ []; public_indexes = []; messages = messages_of (in_message (codes "A") (typed (codes "C") (codes "f") 1 ∷ []) [] ∷ []); enums = []; services = []; is_proto2 = false }
    ∷ record { name = codes "b"; package_name = []; imports = codes "c" ∷ []; public_indexes = shown; messages = no_messages; enums = []; services = []; is_proto2 = false }
    ∷ record { name = codes "c"; package_name = []; imports = []; public_indexes = []; messages = messages_of (in_message (codes "C") [] [] ∷ []); enums = []; services = []; is_proto2 = false }
    ∷ []

-- what a sees: itself and b
not_visible_in_a : told_by (λ i j. (i == j) || (j == i + 1)) (three_files []) ≡ Some (2, cause.NotVisible)
not_visible_in_a = refl

-- what a sees: every file
visible_in_a : told_by (λ i j. true) (three_files (pos 0 ∷ [])) ≡ None
visible_in_a = refl

two_files : told (a_set [] [] ++ a_set [] []) ≡ Some (1, cause.TwoFiles)
two_files = refl

-- a file that imports one
abbrev importing : List ℕ → List ℕ → DeclaredFile
importing name other = record {
  name = name;
  package_name = [];
  imports = other ∷ [];
  public_indexes = [];
  messages = no_messages;
  enums = [];
  services = [];
  is_proto2 = false;
}

missing_import : told (importing (codes "a") (codes "b") ∷ []) ≡ Some (0, cause.MissingImport)
missing_import = refl

-- an import that is there is the file of that name, wherever it stands
import_there : told_by (λ i j. true) (importing (codes "a") (codes "m") ∷ a_set [] []) ≡ None
import_there = refl

-- a: import "b", b: import "a": both reach themselves
abbrev in_a_circle : List DeclaredFile
in_a_circle = importing (codes "a") (codes "b") ∷ importing (codes "b") (codes "a") ∷ []

import_cycle : first_fault (record { declared = declarations in_a_circle; sight = record { sees = λ i j. true; is_cyclic = λ i. true }; files = in_a_circle }) 0
    (declarations in_a_circle) ≡ Some (0, cause.ImportCycle)
import_cycle = refl

-- and it is so that they do
first_reaches_itself : Reaches (files_of in_a_circle) 0 0
first_reaches_itself = further {k = 1} (directly (0, lit< tt, refl)) (0, lit< tt, refl)

abbrev with_optional : List DeclaredFile
with_optional = a_set (message (record { name = codes "M"; fields = int32 (codes "a") 1 ∷ record { name = codes "b"; number = pos 2; is_repeated = false; type_code = Some code.Int32; type_name = None; packed = None; oneof = Some (pos 0); is_optional = true } ∷ []; enums = []; oneofs = codes "_b" ∷ []; reserved = []; reserved_names = []; is_entry = false }) no_messages ∷ []) []

optional_links : told with_optional ≡ None
optional_links = refl

-- the pool of message M { int32 a = 1; optional int32 b = 2; }, with its synthetic oneof left out
pool_of_optional : pool_of with_optional (alone with_optional) ≡ record {
  files = record { name = codes "m"; package_name = []; imports = []; proto2 = false } ∷ [];
  messages = record { name = codes "M"; file = 0; parent = None; fields = record { name = codes "a"; number = 1; kind = kind.Int32; shape = shape.Implicit } ∷ record { name = codes "b"; number = 2; kind = kind.Int32; shape = shape.Explicit } ∷ []; oneofs = [] } ∷ [];
  enums = [];
}
pool_of_optional = refl

-- and of the map field
pool_of_map : pool_of (map_set (codes "a") (codes "key") (codes "value")) (alone (map_set (codes "a") (codes "key") (codes "value"))) ≡ record {
  files = record { name = codes "m"; package_name = []; imports = []; proto2 = false } ∷ [];
  messages = record { name = codes "M"; file = 0; parent = None; fields = record { name = codes "a"; number = 1; kind = kind.Int32; shape = shape.Map kind.Text } ∷ []; oneofs = [] } ∷ [];
  enums = [];
}
pool_of_map = refl

-- package p; message M { p f = 1; }: a package is no type
package_as_type : told (record { name = codes "x"; package_name = codes "p"; imports = []; public_indexes = []; messages = messages_of (in_message (codes "M") (typed (codes "p") (codes "f") 1 ∷ []) [] ∷ []); enums = []; services = []; is_proto2 = false } ∷ []) ≡ Some (2, cause.NotAType)
package_as_type = refl

abbrev member : List ℕ → ℕ → ℕ → Bool → DeclaredField
member name n o optional = record { name = name; number = pos n; is_repeated = false; type_code = Some code.Int32; type_name = None; packed = None; oneof = Some (pos o); is_optional = optional }

abbrev with_oneofs : List DeclaredField → List (List ℕ) → List DeclaredFile
with_oneofs fields oneofs = a_set (message (record { name = codes "M"; fields = fields; enums = []; oneofs = oneofs; reserved = []; reserved_names = []; is_entry = false }) no_messages ∷ []) []

-- an optional field shares its oneof
shared_oneof : told (with_oneofs (member (codes "a") 1 0 true ∷ member (codes "b") 2 0 false ∷ []) (codes "o" ∷ [])) ≡ Some (2, cause.BadOneof)
shared_oneof = refl

-- a real oneof after a synthetic one, and before it
real_behind : told (with_oneofs (member (codes "a") 1 0 true ∷ member (codes "b") 2 1 false ∷ []) (codes "_a" ∷ codes "o" ∷ [])) ≡ Some (5, cause.BadOneof)
real_behind = refl

real_before : told (with_oneofs (member (codes "a") 1 1 true ∷ member (codes "b") 2 0 false ∷ []) (codes "o" ∷ codes "_a" ∷ [])) ≡ None
real_before = refl

-- a synthetic oneof has no name, so a field may have it
unnamed_oneof : told (with_oneofs (member (codes "a") 1 0 true ∷ int32 (codes "_a") 2 ∷ []) (codes "_a" ∷ [])) ≡ None
unnamed_oneof = refl

-- two messages M, of which the first holds an entry that only the second uses
entry_elsewhere : told (a_set (
    in_message (codes "M") [] (message (record {
      name = codes "AEntry";
      fields = record { name = codes "key"; number = pos 1; is_repeated = false; type_code = Some code.Text; type_name = None; packed = None; oneof = None; is_optional = false } ∷ int32 (codes "value") 2 ∷ [];
      enums = [];
      oneofs = [];
      reserved = [];
      reserved_names = [];
      is_entry = true;
    }) no_messages ∷ [])
    ∷ in_message (codes "M") (record { name = codes "a"; number = pos 1; is_repeated = true; type_code = Some code.Message; type_name = Some (codes ".M.AEntry"); packed = None; oneof = None; is_optional = false } ∷ []) [] ∷ []) []) ≡ Some (2, cause.BadMap)
entry_elsewhere = refl

-- a name that goes through a service
abbrev through_service : List DeclaredMethod → List DeclaredFile
through_service methods = record { name = codes "x"; package_name = []; imports = []; public_indexes = []; messages = messages_of (in_message (codes "M") (typed (codes "S.r") (codes "f") 1 ∷ []) [] ∷ []); enums = []; services = record { name = codes "S"; methods = methods } ∷ []; is_proto2 = false } ∷ []

service_without : told (through_service []) ≡ Some (2, cause.NotFound)
service_without = refl

method_as_type : told (through_service (record { name = codes "r"; input = codes "M"; output = codes "M"; client_streams = false; server_streams = false } ∷ [])) ≡ Some (2, cause.NotAType)
method_as_type = refl

-- A pool, its declarations, and the pool that they make: a map, an optional field, an unpacked list, a oneof, a nested message with an enum, an alias
abbrev some_types : Types
some_types = record {
  files = record { name = codes "t"; package_name = codes "p"; imports = []; proto2 = false } ∷ [];
  messages =
      record {
        name = codes "T";
        file = 0;
        parent = None;
        oneofs = codes "o" ∷ [];
        fields =
            record { name = codes "a"; number = 1; kind = kind.Int32; shape = shape.Implicit }
            ∷ record { name = codes "m_n"; number = 2; kind = kind.Message (record { 0 = 1 }); shape = shape.Map kind.Text }
            ∷ record { name = codes "q"; number = 3; kind = kind.Enum (record { 0 = 0 }); shape = shape.Explicit }
            ∷ record { name = codes "v"; number = 4; kind = kind.Sint32; shape = shape.List false }
            ∷ record { name = codes "x"; number = 5; kind = kind.Message (record { 0 = 0 }); shape = shape.OneofMember 0 }
            ∷ record { name = codes "y"; number = 6; kind = kind.Message (record { 0 = 1 }); shape = shape.Explicit } ∷ [];
      }
      ∷ record { name = codes "U"; file = 0; parent = Some 0; oneofs = []; fields = record { name = codes "s"; number = 1; kind = kind.Text; shape = shape.List false } ∷ [] } ∷ [];
  enums = record { name = codes "E"; file = 0; parent = Some 1; values = (codes "Z", pos 0) ∷ (codes "W", pos 0) ∷ [] } ∷ [];
}

some_types_link : told (decls_of some_types) ≡ None
some_types_link = refl

some_types_again : pool_of (decls_of some_types) (alone (decls_of some_types)) ≡ some_types
some_types_again = refl
