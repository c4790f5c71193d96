-- The declarations of a pool's types.
use Rattle.std.specs.Prelude.{ℕ, zero, suc, ℤ, pos, ◌+◌, List, [], ◌∷◌, ◌++◌, length, map, filter, Bool, true}
use Rattle.std.specs.Prelude.{false, not, ◌==◌, ◌&&◌, if◌then◌else◌, Option, Some, None, is_none, filter_map}
use Rattle.std.specs.List.{list_any, enumerate_from}
use Rattle.std.specs.Ordering.{int_eq}
use Rattle.pb_schema.specs.declared.types.Kind.{Kind}
use Rattle.pb_schema.specs.declared.types.Kind.TheVariants as kind
use Rattle.pb_schema.specs.declared.types.Shape.{Shape}
use Rattle.pb_schema.specs.declared.types.Shape.TheVariants as shape
use Rattle.pb_schema.specs.Kinds.{is_packable, message_of_kind}
use Rattle.pb_schema.specs.Names.{in_scope, entry_name, message_names, enum_names, name_at}
use Rattle.pb_schema.specs.Types.{FieldView, MessageView, EnumView, FileView, Types, is_proto2}
use Rattle.pb_declarations.specs.declared.decl.TypeCode.{TypeCode}
use Rattle.pb_declarations.specs.declared.decl.TypeCode.TheVariants as code
use Rattle.pb_declarations.specs.Decls.{DeclaredField, DeclaredEnum, MessageHead, DeclaredMessage, message, no_messages, messages_of, DeclaredFile}
use Rattle.pb_link_rules.specs.Rules.{key_name, value_name}

-- KINDS

-- the type number of a kind
abbrev pub code_of_kind : Kind → TypeCode
code_of_kind kind.Double = code.Double
code_of_kind kind.Float = code.Float
code_of_kind kind.Int64 = code.Int64
code_of_kind kind.Uint64 = code.Uint64
code_of_kind kind.Int32 = code.Int32
code_of_kind kind.Fixed64 = code.Fixed64
code_of_kind kind.Fixed32 = code.Fixed32
code_of_kind kind.Bool = code.Bool
code_of_kind kind.Text = code.Text
code_of_kind kind.Bytes = code.Bytes
code_of_kind kind.Uint32 = code.Uint32
code_of_kind kind.Sfixed32 = code.Sfixed32
code_of_kind kind.Sfixed64 = code.Sfixed64
code_of_kind kind.Sint32 = code.Sint32
code_of_kind kind.Sint64 = code.Sint64
code_of_kind (kind.Enum _) = code.Enum
code_of_kind (kind.Message _) = code.Message
code_of_kind (kind.Group _) = code.Group
code_of_kind (kind.ClosedEnum _) = code.Enum

-- a dot and the full name of the type that a kind names
abbrev pub name_of_kind : Types → Kind → Option (List ℕ)
name_of_kind ts (kind.Enum e) = Some (46 ∷ name_at (enum_names ts) e.0)
name_of_kind ts (kind.Message m) = Some (46 ∷ name_at (message_names ts) m.0)
name_of_kind ts (kind.Group m) = Some (46 ∷ name_at (message_names ts) m.0)
name_of_kind ts (kind.ClosedEnum e) = Some (46 ∷ name_at (enum_names ts) e.0)
name_of_kind ts kind.Double = None
name_of_kind ts kind.Float = None
name_of_kind ts kind.Int64 = None
name_of_kind ts kind.Uint64 = None
name_of_kind ts kind.Int32 = None
name_of_kind ts kind.Fixed64 = None
name_of_kind ts kind.Fixed32 = None
name_of_kind ts kind.Bool = None
name_of_kind ts kind.Text = None
name_of_kind ts kind.Bytes = None
name_of_kind ts kind.Uint32 = None
name_of_kind ts kind.Sfixed32 = None
name_of_kind ts kind.Sfixed64 = None
name_of_kind ts kind.Sint32 = None
name_of_kind ts kind.Sint64 = None

-- FIELDS

abbrev pub is_repeated_shape : Shape → Bool
is_repeated_shape (shape.List packed) = true
is_repeated_shape (shape.Map key) = true
is_repeated_shape shape.Implicit = false
is_repeated_shape shape.Explicit = false
is_repeated_shape (shape.OneofMember o) = false

-- the field is optional: Explicit, no message, and not in a file of proto2
abbrev pub is_optional_field : Bool → Shape → Kind → Bool
is_optional_field two shape.Explicit k = not two && is_none (message_of_kind k)
is_optional_field two shape.Implicit k = false
is_optional_field two (shape.OneofMember o) k = false
is_optional_field two (shape.List packed) k = false
is_optional_field two (shape.Map key) k = false

-- a map field's type is its entry message
abbrev pub code_of_field : Shape → Kind → TypeCode
code_of_field (shape.Map key) k = code.Message
code_of_field shape.Implicit k = code_of_kind k
code_of_field shape.Explicit k = code_of_kind k
code_of_field (shape.OneofMember o) k = code_of_kind k
code_of_field (shape.List packed) k = code_of_kind k

-- the name of the type of a field of a scope
abbrev pub name_of_type : Types → List ℕ → List ℕ → Shape → Kind → Option (List ℕ)
name_of_type ts scope name (shape.Map key) k = Some (46 ∷ in_scope scope (entry_name name))
name_of_type ts scope name shape.Implicit k = name_of_kind ts k
name_of_type ts scope name shape.Explicit k = name_of_kind ts k
name_of_type ts scope name (shape.OneofMember o) k = name_of_kind ts k
name_of_type ts scope name (shape.List packed) k = name_of_kind ts k

-- an unpacked list of a packable kind says so; in a file of proto2 a packed list does
abbrev pub packed_of_list : Bool → Bool → Kind → Option Bool
packed_of_list true packed k = if packed then Some true else None
packed_of_list false packed k = if is_packable k && not packed then Some false else None

abbrev pub packed_of_field : Bool → Shape → Kind → Option Bool
packed_of_field two (shape.List packed) k = packed_of_list two packed k
packed_of_field two shape.Implicit k = None
packed_of_field two shape.Explicit k = None
packed_of_field two (shape.OneofMember o) k = None
packed_of_field two (shape.Map key) k = None

-- the oneof of a field, which is a synthetic one of an index where the field is optional
abbrev pub oneof_of_field : Bool → ℕ → Shape → Kind → Option ℤ
oneof_of_field two synthetic shape.Explicit k = if not two && is_none (message_of_kind k) then Some (pos synthetic) else None
oneof_of_field two synthetic (shape.OneofMember o) k = Some (pos o)
oneof_of_field two synthetic shape.Implicit k = None
oneof_of_field two synthetic (shape.List packed) k = None
oneof_of_field two synthetic (shape.Map key) k = None

-- a field of a message, by whether its file is of proto2, the message's full name and the index that its synthetic oneof would have
abbrev pub declared_field : Bool → Types → List ℕ → ℕ → FieldView → DeclaredField
declared_field two ts scope synthetic f = record {
  name = f.name;
  number = pos f.number;
  is_repeated = is_repeated_shape f.shape;
  type_code = Some (code_of_field f.shape f.kind);
  type_name = name_of_type ts scope f.name f.shape f.kind;
  packed = packed_of_field two f.shape f.kind;
  oneof = oneof_of_field two synthetic f.shape f.kind;
  is_optional = is_optional_field two f.shape f.kind;
}

abbrev pub is_optional_view : Bool → FieldView → Bool
is_optional_view two f = is_optional_field two f.shape f.kind

-- the fields, where the next synthetic oneof has this index
abbrev pub declared_fields : Bool → Types → List ℕ → ℕ → List FieldView → List DeclaredField
declared_fields two ts scope synthetic [] = []
declared_fields two ts scope synthetic (f ∷ fs) =
    declared_field two ts scope synthetic f ∷ declared_fields two ts scope (if is_optional_view two f then synthetic + 1 else synthetic) fs

-- the synthetic oneofs of fields
abbrev pub synthetic_names : Bool → List FieldView → List (List ℕ)
synthetic_names two fs = map (λ f. 95 ∷ f.name) (filter (is_optional_view two) fs)

-- MAPS

-- a field of an entry message
abbrev pub entry_part : Types → List ℕ → ℕ → Kind → DeclaredField
entry_part ts name n k = record {
  name = name;
  number = pos n;
  is_repeated = false;
  type_code = Some (code_of_kind k);
  type_name = name_of_kind ts k;
  packed = None;
  oneof = None;
  is_optional = false;
}

-- the entry message of a map field of a name, with these kinds of key and value
abbrev pub entry_message : Types → List ℕ → Kind → Kind → DeclaredMessage
entry_message ts name key k = message (record {
  name = entry_name name;
  fields = entry_part ts key_name 1 key ∷ entry_part ts value_name 2 k ∷ [];
  enums = [];
  oneofs = [];
  reserved = [];
  reserved_names = [];
  is_entry = true;
}) no_messages

-- the entry message of a map field
abbrev pub entry_of_field : Types → FieldView → Option DeclaredMessage
entry_of_field ts f = by_shape f.shape
  where
    by_shape : Shape → Option DeclaredMessage
    by_shape (shape.Map key) = Some (entry_message ts f.name key f.kind)
    by_shape shape.Implicit = None
    by_shape shape.Explicit = None
    by_shape (shape.OneofMember o) = None
    by_shape (shape.List packed) = None

-- ENUMS

abbrev pub shares_numbers : List (List ℕ × ℤ) → Bool
shares_numbers [] = false
shares_numbers (v ∷ vs) = if list_any (λ u. int_eq v.1 u.1) vs then true else shares_numbers vs

abbrev pub declared_enum : EnumView → DeclaredEnum
declared_enum e = record { name = e.name; values = e.values; allows_alias = shares_numbers e.values; reserved = []; reserved_names = [] }

-- MESSAGES

abbrev pub is_parent : ℕ → Option ℕ → Bool
is_parent p None = false
is_parent p (Some q) = p == q

abbrev pub is_outermost : Option ℕ → Bool
is_outermost None = true
is_outermost (Some q) = false

-- messages by their indexes
abbrev pub numbered : Types → List (ℕ × MessageView)
numbered ts = enumerate_from 0 ts.messages

-- the messages and the enums that are declared in the message of an index directly
abbrev pub messages_in : Types → ℕ → List (ℕ × MessageView)
messages_in ts i = filter (λ m. is_parent i m.1.parent) (numbered ts)

abbrev pub enums_in : Types → ℕ → List EnumView
enums_in ts i = filter (λ e. is_parent i e.parent) ts.enums

-- what the message of an index declares itself
abbrev pub declared_head : Types → ℕ → MessageView → MessageHead
declared_head ts i t = record {
  name = t.name;
  fields = declared_fields (is_proto2 ts.files t.file) ts (name_at (message_names ts) i) (length t.oneofs) t.fields;
  enums = map declared_enum (enums_in ts i);
  oneofs = t.oneofs ++ synthetic_names (is_proto2 ts.files t.file) t.fields;
  reserved = [];
  reserved_names = [];
  is_entry = false;
}

-- The message of an index, with those in it: nested ones, and after them the entries. Messages nest at most this many levels.
abbrev pub declared_message : ℕ → Types → ℕ × MessageView → DeclaredMessage
declared_message zero ts m = message (declared_head ts m.0 m.1) no_messages
declared_message (suc levels) ts m =
    message (declared_head ts m.0 m.1) (messages_of (map (declared_message levels ts) (messages_in ts m.0) ++ filter_map (entry_of_field ts) m.1.fields))

-- FILES

-- the outermost messages and enums of a file
abbrev pub outermost_messages : Types → ℕ → List (ℕ × MessageView)
outermost_messages ts file = filter (λ m. (file == m.1.file) && is_outermost m.1.parent) (numbered ts)

abbrev pub outermost_enums : Types → ℕ → List EnumView
outermost_enums ts file = filter (λ e. (file == e.file) && is_outermost e.parent) ts.enums

abbrev pub file_name : Types → ℕ → List ℕ
file_name ts i = name_at (map (λ f. f.name) ts.files) i

-- each import is public
abbrev pub declared_file : Types → ℕ × FileView → DeclaredFile
declared_file ts (i, f) = record {
  name = f.name;
  package_name = f.package_name;
  imports = map (file_name ts) f.imports;
  public_indexes = map (λ e. pos e.0) (enumerate_from 0 f.imports);
  messages = messages_of (map (declared_message (length ts.messages) ts) (outermost_messages ts i));
  enums = map declared_enum (outermost_enums ts i);
  services = [];
  is_proto2 = f.proto2;
}

abbrev pub decls_of : Types → List DeclaredFile
decls_of ts = map (declared_file ts) (enumerate_from 0 ts.files)
