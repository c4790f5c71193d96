-- The types that declarations make.
use Rattle.std.specs.Prelude.{ℕ, ℤ, pos, negsuc, List, length, map, take, filter, Bool, true, false, not, ◌&&◌}
use Rattle.std.specs.Prelude.{if◌then◌else◌, Option, Some, None, find, filter_map, option_and_then, slice_get}
use Rattle.std.specs.List.{enumerate_from}
use Rattle.std.specs.Option.{option_map_or}
use Rattle.std.specs.Str.{bytes_eq}
use Rattle.pb_schema.specs.declared.types.Kind.{Kind}
use Rattle.pb_schema.specs.declared.types.Kind.TheVariants as kind
use Rattle.pb_schema.specs.declared.types.Shape.{Shape}
use Rattle.pb_schema.specs.declared.types.Shape.TheVariants as shape
use Rattle.pb_schema.specs.Kinds.{is_packable}
use Rattle.pb_schema.specs.Names.{in_scope}
use Rattle.pb_schema.specs.Types.{FieldView, MessageView, EnumView, Types}
use Rattle.pb_declarations.specs.declared.decl.TypeCode.{TypeCode}
use Rattle.pb_declarations.specs.declared.decl.TypeCode.TheVariants as code
use Rattle.pb_declarations.specs.Decls.{DeclaredField, MessageHead, DeclaredFile}
use Rattle.pb_link_names.specs.Sees.{files_of}
use Rattle.pb_link_names.specs.Declarations.{Item, a_file, a_message, a_field, a_oneof, an_enum, a_value, a_service, a_method, Declaration, full_name, is_synthetic}
use Rattle.pb_link_names.specs.Lookup.{looked_up}
use Rattle.pb_link_rules.specs.Rules.{World, is_two, item_at, is_enum, is_message_type, is_group, place_found, value_name, key_name}

-- how many declarations before a place pass a test
abbrev pub count_before : (Item → Bool) → World → ℕ → ℕ
count_before test w place = length (filter (λ d. test d.item) (take place w.declared))

-- the index of the type at a place
abbrev pub message_index : World → ℕ → ℕ
message_index w place = count_before is_message_type w place

abbrev pub enum_index : World → ℕ → ℕ
enum_index w place = count_before is_enum w place

-- the kind of a type number; Bool for GROUP, MESSAGE and ENUM, which have none of their own
abbrev pub kind_of_code : TypeCode → Kind
kind_of_code code.Double = kind.Double
kind_of_code code.Float = kind.Float
kind_of_code code.Int64 = kind.Int64
kind_of_code code.Uint64 = kind.Uint64
kind_of_code code.Int32 = kind.Int32
kind_of_code code.Fixed64 = kind.Fixed64
kind_of_code code.Fixed32 = kind.Fixed32
kind_of_code code.Text = kind.Text
kind_of_code code.Bytes = kind.Bytes
kind_of_code code.Uint32 = kind.Uint32
kind_of_code code.Sfixed32 = kind.Sfixed32
kind_of_code code.Sfixed64 = kind.Sfixed64
kind_of_code code.Sint32 = kind.Sint32
kind_of_code code.Sint64 = kind.Sint64
kind_of_code code.Bool = kind.Bool
kind_of_code code.Group = kind.Bool
kind_of_code code.Message = kind.Bool
kind_of_code code.Enum = kind.Bool

-- the kind of an enum, by whether its file is of proto2
abbrev pub enum_kind : Bool → ℕ → Kind
enum_kind true e = kind.ClosedEnum (record { 0 = e })
enum_kind false e = kind.Enum (record { 0 = e })

abbrev pub kind_by_item : World → ℕ → ℕ → Item → Kind
kind_by_item w file place (a_message head inner) = kind.Message (record { 0 = message_index w place })
kind_by_item w file place (an_enum e) = enum_kind (is_two w.files file) (enum_index w place)
kind_by_item w file place (a_file f) = kind.Bool
kind_by_item w file place (a_field head i f) = kind.Bool
kind_by_item w file place (a_oneof head i name) = kind.Bool
kind_by_item w file place (a_value e i v) = kind.Bool
kind_by_item w file place (a_service s) = kind.Bool
kind_by_item w file place (a_method m) = kind.Bool

abbrev pub kind_declared : World → ℕ → Option Declaration → Kind
kind_declared w place None = kind.Bool
kind_declared w place (Some d) = kind_by_item w d.file place d.item

-- the kind of the type at a place
abbrev pub kind_at : World → ℕ → Kind
kind_at w place = kind_declared w place (slice_get w.declared place)

-- a message as a group
abbrev pub group_of : Kind → Kind
group_of (kind.Message m) = kind.Group m
group_of (kind.Enum e) = kind.Enum e
group_of (kind.Group m) = kind.Group m
group_of (kind.ClosedEnum e) = kind.ClosedEnum e
group_of kind.Double = kind.Double
group_of kind.Float = kind.Float
group_of kind.Int64 = kind.Int64
group_of kind.Uint64 = kind.Uint64
group_of kind.Int32 = kind.Int32
group_of kind.Fixed64 = kind.Fixed64
group_of kind.Fixed32 = kind.Fixed32
group_of kind.Bool = kind.Bool
group_of kind.Text = kind.Text
group_of kind.Bytes = kind.Bytes
group_of kind.Uint32 = kind.Uint32
group_of kind.Sfixed32 = kind.Sfixed32
group_of kind.Sfixed64 = kind.Sfixed64
group_of kind.Sint32 = kind.Sint32
group_of kind.Sint64 = kind.Sint64

-- a kind, as a group where that is the type number
abbrev pub grouped : Bool → Kind → Kind
grouped true k = group_of k
grouped false k = k

-- the place of the type that a field of a scope names
abbrev pub type_place : World → ℕ → List ℕ → DeclaredField → Option ℕ
type_place w file scope f = option_and_then (λ name. place_found (looked_up w.declared (w.sight.sees file) scope name)) f.type_name

-- the kind of the type at a place, if the field names one, else what its type number says
abbrev pub kind_by_place : World → DeclaredField → Option ℕ → Kind
kind_by_place w f (Some place) = grouped (is_group f.type_code) (kind_at w place)
kind_by_place w f None = option_map_or kind_of_code f.type_code kind.Bool

abbrev pub kind_of_field : World → ℕ → List ℕ → DeclaredField → Kind
kind_of_field w file scope f = kind_by_place w f (type_place w file scope f)

abbrev pub part_named : List ℕ → MessageHead → Option DeclaredField
part_named name head = find (λ f. bytes_eq name f.name) head.fields

abbrev pub entry_by_item : Declaration → Item → Option (MessageHead × List ℕ)
entry_by_item d (a_message head inner) = if head.is_entry then Some (head, full_name d) else None
entry_by_item d (a_file f) = None
entry_by_item d (a_field head i f) = None
entry_by_item d (a_oneof head i name) = None
entry_by_item d (an_enum e) = None
entry_by_item d (a_value e i v) = None
entry_by_item d (a_service s) = None
entry_by_item d (a_method m) = None

-- the entry message that is declared, by its head and its full name
abbrev pub entry_declared : Declaration → Option (MessageHead × List ℕ)
entry_declared d = entry_by_item d d.item

-- the entry message that a field uses
abbrev pub entry_of : World → ℕ → List ℕ → DeclaredField → Option (MessageHead × List ℕ)
entry_of w file scope f = option_and_then (λ place. option_and_then entry_declared (slice_get w.declared place)) (type_place w file scope f)

-- a list of a packable kind is packed unless `packed` is false; in a file of proto2 where it is true
abbrev pub list_shape : Bool → Kind → DeclaredField → Shape
list_shape two k f = shape.List (is_packable k && option_map_or (λ b. b) f.packed (not two))

-- A member of a real oneof is OneofMember. Any other message, an optional field, and any other field in a file of proto2 is Explicit. Any other
-- field is Implicit.
abbrev pub singular_shape : Bool → Kind → DeclaredField → Shape
singular_shape two k f = if f.is_optional then shape.Explicit else by_oneof f.oneof
  where
    by_kind : Kind → Shape
    by_kind (kind.Message _) = shape.Explicit
    by_kind (kind.Group _) = shape.Explicit
    by_kind (kind.Enum _) = shape.Implicit
    by_kind (kind.ClosedEnum _) = shape.Implicit
    by_kind kind.Double = shape.Implicit
    by_kind kind.Float = shape.Implicit
    by_kind kind.Int64 = shape.Implicit
    by_kind kind.Uint64 = shape.Implicit
    by_kind kind.Int32 = shape.Implicit
    by_kind kind.Fixed64 = shape.Implicit
    by_kind kind.Fixed32 = shape.Implicit
    by_kind kind.Bool = shape.Implicit
    by_kind kind.Text = shape.Implicit
    by_kind kind.Bytes = shape.Implicit
    by_kind kind.Uint32 = shape.Implicit
    by_kind kind.Sfixed32 = shape.Implicit
    by_kind kind.Sfixed64 = shape.Implicit
    by_kind kind.Sint32 = shape.Implicit
    by_kind kind.Sint64 = shape.Implicit

    alone : Bool → Shape
    alone true = shape.Explicit
    alone false = by_kind k

    by_oneof : Option ℤ → Shape
    by_oneof (Some (pos o)) = shape.OneofMember o
    by_oneof (Some (negsuc o)) = alone two
    by_oneof None = alone two

abbrev pub number_of : ℤ → ℕ
number_of (pos n) = n
number_of (negsuc n) = 0

abbrev pub with_kind : Bool → DeclaredField → Kind → FieldView
with_kind two f k = record {
  name = f.name;
  number = number_of f.number;
  kind = k;
  shape = if f.is_repeated then list_shape two k f else singular_shape two k f;
}

-- a field of a scope of a file, by the entry message that it uses, if it does
abbrev pub field_by_entry : World → ℕ → List ℕ → DeclaredField → Option (MessageHead × List ℕ) → FieldView
field_by_entry w file scope f None = with_kind (is_two w.files file) f (kind_of_field w file scope f)
field_by_entry w file scope f (Some (head, name)) = record {
  name = f.name;
  number = number_of f.number;
  kind = option_map_or (kind_of_field w file name) (part_named value_name head) kind.Bool;
  shape = shape.Map (option_map_or (λ k. option_map_or kind_of_code k.type_code kind.Bool) (part_named key_name head) kind.Bool);
}

-- a field of a message of a file, by the message's full name
abbrev pub field_type : World → ℕ → List ℕ → DeclaredField → FieldView
field_type w file scope f = field_by_entry w file scope f (entry_of w file scope f)

abbrev pub parent_by_item : World → ℕ → Option Item → Option ℕ
parent_by_item w place (Some (a_message head inner)) = Some (message_index w place)
parent_by_item w place None = None
parent_by_item w place (Some (a_file f)) = None
parent_by_item w place (Some (a_field head i f)) = None
parent_by_item w place (Some (a_oneof head i name)) = None
parent_by_item w place (Some (an_enum e)) = None
parent_by_item w place (Some (a_value e i v)) = None
parent_by_item w place (Some (a_service s)) = None
parent_by_item w place (Some (a_method m)) = None

-- the index of the message that a declaration's parent is; None if the parent is a file
abbrev pub parent_type : World → ℕ → Option ℕ
parent_type w place = parent_by_item w place (item_at w place)

abbrev pub real_oneofs : MessageHead → List (List ℕ)
real_oneofs head = map (λ e. e.1) (filter (λ e. not (is_synthetic head e.0)) (enumerate_from 0 head.oneofs))

abbrev pub message_of_head : World → Declaration → MessageHead → MessageView
message_of_head w d head = record {
  name = head.name;
  file = d.file;
  parent = parent_type w d.parent;
  fields = map (field_type w d.file (in_scope d.scope head.name)) head.fields;
  oneofs = real_oneofs head;
}

abbrev pub message_by_item : World → Declaration → Item → Option MessageView
message_by_item w d (a_message head inner) = if head.is_entry then None else Some (message_of_head w d head)
message_by_item w d (a_file f) = None
message_by_item w d (a_field head i f) = None
message_by_item w d (a_oneof head i name) = None
message_by_item w d (an_enum e) = None
message_by_item w d (a_value e i v) = None
message_by_item w d (a_service s) = None
message_by_item w d (a_method m) = None

abbrev pub message_type : World → Declaration → Option MessageView
message_type w d = message_by_item w d d.item

abbrev pub enum_by_item : World → Declaration → Item → Option EnumView
enum_by_item w d (an_enum e) = Some (record { name = e.name; file = d.file; parent = parent_type w d.parent; values = e.values })
enum_by_item w d (a_file f) = None
enum_by_item w d (a_message head inner) = None
enum_by_item w d (a_field head i f) = None
enum_by_item w d (a_oneof head i name) = None
enum_by_item w d (a_value e i v) = None
enum_by_item w d (a_service s) = None
enum_by_item w d (a_method m) = None

abbrev pub enum_type : World → Declaration → Option EnumView
enum_type w d = enum_by_item w d d.item

-- files, types and fields in declaration order
abbrev pub pool_of : List DeclaredFile → World → Types
pool_of files w = record {
  files = files_of files;
  messages = filter_map (message_type w) w.declared;
  enums = filter_map (enum_type w) w.declared;
}
