-- Parts that break one rule of a pool each, and so are none, worked out by the definitions.
use Rattle.std.proofs.Common.{◌≡◌, ◌<◌, ◌≤◌, ℕ, List, [], ◌∷◌, None, true, false, refl, arith, inl, inr}
use Rattle.std.specs.Prelude.{codes, ℤ, pos, Bool, Option, ◌⊎◌}
use Rattle.pb_schema.specs.declared.types.Kind.TheVariants as kind
use Rattle.pb_schema.specs.declared.types.Shape.TheVariants as shape
use Rattle.pb_schema.specs.Types.{FieldView, MessageView, EnumView, FileView, Types}
use Rattle.pb_schema.specs.Rules.{IsPool}
use Rattle.pb_schema.proofs.Samples.{field, the_message, group_at}

abbrev file_of : Bool → FileView
file_of two = record { name = codes "t.proto"; package_name = []; imports = []; proto2 = two }

abbrev message_with : ℕ → Option ℕ → List FieldView → List (List ℕ) → MessageView
message_with file parent fields oneofs = record { name = codes "T"; file = file; parent = parent; fields = fields; oneofs = oneofs }

abbrev enum_with : ℕ → List (List ℕ × ℤ) → EnumView
enum_with file values = record { name = codes "E"; file = file; parent = None; values = values }

abbrev with_files : List FileView → Types
with_files files = record { files = files; messages = []; enums = [] }

-- one message of a file, with these fields
abbrev with_fields : Bool → List FieldView → Types
with_fields two fields = record { files = file_of two ∷ []; messages = message_with 0 None fields [] ∷ []; enums = [] }

abbrev with_enum : Bool → List (List ℕ × ℤ) → Types
with_enum two values = record { files = file_of two ∷ []; messages = []; enums = enum_with 0 values ∷ [] }

-- FILES

unnamed_file : ¬ IsPool (with_files (record { name = []; package_name = []; imports = []; proto2 = false } ∷ []))
unnamed_file p = p.files.named.0 refl

files_of_one_name : ¬ IsPool (with_files (file_of false ∷ file_of true ∷ []))
files_of_one_name p = p.files.names_differ.0.0 refl

package_of_no_words : ¬ IsPool (with_files (record { name = codes "t.proto"; package_name = codes "1"; imports = []; proto2 = false } ∷ []))
package_of_no_words p = let e : false ≡ true = p.files.packages.0 in cc

import_of_no_file : ¬ IsPool (with_files (record { name = codes "t.proto"; package_name = []; imports = 1 ∷ []; proto2 = false } ∷ []))
import_of_no_file p = let e : 1 < 1 = p.files.imports_name_files.0.0 in omega arith

-- INDEXES

message_of_no_file : ¬ IsPool (record { files = []; messages = message_with 0 None [] [] ∷ []; enums = [] })
message_of_no_file p = let e : 0 < 0 = p.indexes.message_files.0 in omega arith

enum_of_no_file : ¬ IsPool (record { files = []; messages = []; enums = enum_with 0 ((codes "A", pos 0) ∷ []) ∷ [] })
enum_of_no_file p = let e : 0 < 0 = p.indexes.enum_files.0 in omega arith

kind_of_no_message : ¬ IsPool (with_fields false (field 1 (kind.Message (record { 0 = 1 })) shape.Explicit ∷ []))
kind_of_no_message p = let e : 1 < 1 = p.indexes.kinds.0.0 in omega arith

member_of_no_oneof : ¬ IsPool (with_fields false (field 1 kind.Int32 (shape.OneofMember 0) ∷ []))
member_of_no_oneof p = let e : 0 < 0 = p.indexes.members.0.0 in omega arith

-- FIELDS

number_zero : ¬ IsPool (with_fields false (field 0 kind.Int32 shape.Explicit ∷ []))
number_zero p = let e : 1 ≤ 0 = p.fields.shapes.numbers.0.0.0 in omega arith

number_too_large : ¬ IsPool (with_fields false (field 536870912 kind.Int32 shape.Explicit ∷ []))
number_too_large p = let e : 536870912 < 536870912 = p.fields.shapes.numbers.0.0.1 in omega arith

kept_number : ¬ IsPool (with_fields false (field 19000 kind.Int32 shape.Explicit ∷ []))
kept_number p = neither p.fields.shapes.numbers.0.0.2
  where
    neither : (19000 < 19000) ⊎ (19999 < 19000) → ⊥
    neither (inl a) = omega arith
    neither (inr b) = omega arith

one_number_twice : ¬ IsPool (with_fields false (field 1 kind.Int32 shape.Explicit ∷ field 1 kind.Bool shape.Explicit ∷ []))
one_number_twice p = p.fields.numbers_differ.0.0.0 refl

key_of_floats : ¬ IsPool (with_fields false (field 1 kind.Int32 (shape.Map kind.Float) ∷ []))
key_of_floats p = let e : false ≡ true = p.fields.shapes.keys.0.0 in cc

packed_texts : ¬ IsPool (with_fields false (field 1 kind.Text (shape.List true) ∷ []))
packed_texts p = let e : false ≡ true = p.fields.shapes.packed.0.0 in cc

implicit_message : ¬ IsPool (with_fields false (field 1 the_message shape.Implicit ∷ []))
implicit_message p = p.fields.shapes.implicit.0.0

map_of_groups : ¬ IsPool (with_fields true (field 1 (group_at 0) (shape.Map kind.Int32) ∷ []))
map_of_groups p = let e : true ≡ false = p.fields.shapes.values.0.0 in cc

-- SYNTAX

implicit_in_proto2 : ¬ IsPool (with_fields true (field 1 kind.Int32 shape.Implicit ∷ []))
implicit_in_proto2 p = p.syntax.fields.0.0

group_in_proto3 : ¬ IsPool (with_fields false (field 1 (group_at 0) shape.Explicit ∷ []))
group_in_proto3 p = let e : true ≡ false = p.syntax.fields.0.0 in cc

enum_without_values : ¬ IsPool (with_enum true [])
enum_without_values p = p.syntax.first_values.0

first_value_of_proto3 : ¬ IsPool (with_enum false ((codes "A", pos 1) ∷ []))
first_value_of_proto3 p = let e : pos 1 ≡ pos 0 = p.syntax.first_values.0 in cc
