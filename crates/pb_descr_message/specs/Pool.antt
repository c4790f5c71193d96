-- The types of descriptor.proto that are read and written; what is not listed is an unknown field.
use Rattle.std.specs.Prelude.{ℕ, List, [], ◌∷◌, codes, false, Some, None}
use Rattle.pb_schema.specs.declared.types.Kind.{Kind}
use Rattle.pb_schema.specs.declared.types.Kind.TheVariants as kind
use Rattle.pb_schema.specs.declared.types.Shape.TheVariants as shape
use Rattle.pb_schema.specs.Types.{FieldView, MessageView, FileView, Types}

-- every singular field has presence
abbrev pub one : ℕ → List ℕ → Kind → FieldView
one n name k = record { name = name; number = n; kind = k; shape = shape.Explicit }

-- lists of numbers are not packed
abbrev pub many : ℕ → List ℕ → Kind → FieldView
many n name k = record { name = name; number = n; kind = k; shape = shape.List false }

abbrev pub message : ℕ → Kind
message m = kind.Message (record { 0 = m })

abbrev pub outer : List ℕ → List FieldView → MessageView
outer name fields = record { name = name; file = 0; parent = None; fields = fields; oneofs = [] }

abbrev pub inside : ℕ → List ℕ → List FieldView → MessageView
inside p name fields = record { name = name; file = 0; parent = Some p; fields = fields; oneofs = [] }

abbrev pub a_range : List FieldView
a_range = one 1 (codes "start") kind.Int32 ∷ one 2 (codes "end") kind.Int32 ∷ []

-- the indexes of its messages
abbrev pub the_set : ℕ
the_set = 0

abbrev pub the_file : ℕ
the_file = 1

abbrev pub descriptor_file : FileView
descriptor_file = record { name = codes "google/protobuf/descriptor.proto"; package_name = codes "google.protobuf"; imports = []; proto2 = false }

abbrev pub descriptor_types : Types
descriptor_types = record {
  files = descriptor_file ∷ [];
  messages =
      -- 0
      outer (codes "FileDescriptorSet") (many 1 (codes "file") (message 1) ∷ []) ∷
      -- 1
      outer (codes "FileDescriptorProto")
      (one 1 (codes "name") kind.Text ∷ one 2 (codes "package") kind.Text ∷ many 3 (codes "dependency") kind.Text ∷
      many 4 (codes "message_type") (message 2) ∷ many 5 (codes "enum_type") (message 7) ∷ many 6 (codes "service") (message 10) ∷
      many 7 (codes "extension") (message 5) ∷ many 10 (codes "public_dependency") kind.Int32 ∷ one 12 (codes "syntax") kind.Text ∷ []) ∷
      -- 2
      outer (codes "DescriptorProto")
      (one 1 (codes "name") kind.Text ∷ many 2 (codes "field") (message 5) ∷ many 3 (codes "nested_type") (message 2) ∷
      many 4 (codes "enum_type") (message 7) ∷ many 5 (codes "extension_range") (message 4) ∷ many 6 (codes "extension") (message 5) ∷
      one 7 (codes "options") (message 12) ∷ many 8 (codes "oneof_decl") (message 6) ∷ many 9 (codes "reserved_range") (message 3) ∷
      many 10 (codes "reserved_name") kind.Text ∷ []) ∷
      -- 3, 4
      inside 2 (codes "ReservedRange") a_range ∷
      inside 2 (codes "ExtensionRange") a_range ∷
      -- 5
      outer (codes "FieldDescriptorProto")
      (one 1 (codes "name") kind.Text ∷ one 2 (codes "extendee") kind.Text ∷ one 3 (codes "number") kind.Int32 ∷
      one 4 (codes "label") kind.Int32 ∷ one 5 (codes "type") kind.Int32 ∷ one 6 (codes "type_name") kind.Text ∷
      one 7 (codes "default_value") kind.Text ∷ one 8 (codes "options") (message 13) ∷ one 9 (codes "oneof_index") kind.Int32 ∷
      one 17 (codes "proto3_optional") kind.Bool ∷ []) ∷
      -- 6
      outer (codes "OneofDescriptorProto") (one 1 (codes "name") kind.Text ∷ []) ∷
      -- 7
      outer (codes "EnumDescriptorProto")
      (one 1 (codes "name") kind.Text ∷ many 2 (codes "value") (message 9) ∷ one 3 (codes "options") (message 14) ∷
      many 4 (codes "reserved_range") (message 8) ∷ many 5 (codes "reserved_name") kind.Text ∷ []) ∷
      -- 8, 9
      inside 7 (codes "EnumReservedRange") a_range ∷
      outer (codes "EnumValueDescriptorProto") (one 1 (codes "name") kind.Text ∷ one 2 (codes "number") kind.Int32 ∷ []) ∷
      -- 10, 11
      outer (codes "ServiceDescriptorProto") (one 1 (codes "name") kind.Text ∷ many 2 (codes "method") (message 11) ∷ []) ∷
      outer (codes "MethodDescriptorProto")
      (one 1 (codes "name") kind.Text ∷ one 2 (codes "input_type") kind.Text ∷ one 3 (codes "output_type") kind.Text ∷
      one 5 (codes "client_streaming") kind.Bool ∷ one 6 (codes "server_streaming") kind.Bool ∷ []) ∷
      -- 12, 13, 14
      outer (codes "MessageOptions") (one 7 (codes "map_entry") kind.Bool ∷ []) ∷
      outer (codes "FieldOptions") (one 2 (codes "packed") kind.Bool ∷ []) ∷
      outer (codes "EnumOptions") (one 2 (codes "allow_alias") kind.Bool ∷ []) ∷ [];
  enums = [];
}
