-- How the parts of a pool are read off the row of declarations and what type names came to.
use Rattle.std.specs.Prelude.{ℕ, ◌+◌, List, [], ◌∷◌, drop, map, filter, Bool, true, false, not, if◌then◌else◌, Option, Some, None, option_and_then, slice_get}
use Rattle.std.specs.List.{cons_option, enumerate_from}
use Rattle.std.specs.Option.{option_map_or}
use Rattle.std.specs.Str.{bytes_eq}
use Rattle.pb_schema.specs.declared.types.Kind.{Kind}
use Rattle.pb_schema.specs.declared.types.Kind.TheVariants as kind
use Rattle.pb_schema.specs.declared.types.Shape.TheVariants as shape
use Rattle.pb_schema.specs.Types.{FieldView, MessageView, EnumView}
use Rattle.pb_declarations.specs.declared.decl.TypeCode.{TypeCode}
use Rattle.pb_declarations.specs.Decls.{DeclaredField, DeclaredEnum, MessageHead, DeclaredFile}
use Rattle.pb_link_names.specs.Declarations.{Item, a_file, a_message, a_field, a_oneof, an_enum, a_value, a_service, a_method, Declaration, is_synthetic}
use Rattle.pb_link_names.specs.Lookup.{Found}
use Rattle.pb_link_rules.specs.Rules.{is_two, is_enum, is_message_type, is_group, place_found, key_name}
use Rattle.pb_link.specs.PoolOf.{kind_of_code, enum_kind, grouped, with_kind, number_of, real_oneofs}
use Rattle.pb_declarations.specs.View.{file_view}
use Rattle.pb_link_names.specs.View.{declaration_view, type_names_view}
use Rattle.pb_link_names.specs.declared.found.TypeNames.{TypeNames}
use Rattle.pb_link.specs.declared.pools.tables.Tables.{Tables}

-- the kind of a declaration that follows this many message types and enums; `two`: its file is of proto2. Bool if it is not a type
abbrev pub kind_here : Bool → ℕ → ℕ → Item → Kind
kind_here two messages enums (a_message head inner) = kind.Message (record { 0 = messages })
kind_here two messages enums (an_enum e) = enum_kind two enums
kind_here two messages enums (a_file f) = kind.Bool
kind_here two messages enums (a_field head i f) = kind.Bool
kind_here two messages enums (a_oneof head i name) = kind.Bool
kind_here two messages enums (a_value e i v) = kind.Bool
kind_here two messages enums (a_service s) = kind.Bool
kind_here two messages enums (a_method m) = kind.Bool

abbrev pub one_if : Bool → ℕ → ℕ
one_if true n = n + 1
one_if false n = n

-- the kinds of declarations that follow this many message types and enums
abbrev pub kinds_from : List DeclaredFile → ℕ → ℕ → List Declaration → List Kind
kinds_from files messages enums [] = []
kinds_from files messages enums (d ∷ ds) =
    kind_here (is_two files d.file) messages enums d.item
    ∷ kinds_from files (one_if (is_message_type d.item) messages) (one_if (is_enum d.item) enums) ds

-- the type that was found first
abbrev pub first_place : List Found → Option ℕ
first_place [] = None
first_place (r ∷ rs) = place_found r

-- the place of the type that the declaration at an index names
abbrev pub place_named : List TypeNames → ℕ → Option ℕ
place_named names i = option_and_then (λ n. first_place (type_names_view n)) (slice_get names i)

abbrev pub kind_of_number : Option TypeCode → Kind
kind_of_number c = option_map_or kind_of_code c kind.Bool

-- the kind of a field that names the type at a place, if it names one
abbrev pub kind_read : Tables → Option ℕ → Option TypeCode → Kind
kind_read t None c = kind_of_number c
kind_read t (Some p) c = grouped (is_group c) (option_map_or (λ k. k) (slice_get t.kinds.items p) kind.Bool)

abbrev pub fields_of_entry : Item → Option (List DeclaredField)
fields_of_entry (a_message head inner) = if head.is_entry then Some head.fields else None
fields_of_entry (a_file f) = None
fields_of_entry (a_field head i f) = None
fields_of_entry (a_oneof head i name) = None
fields_of_entry (an_enum e) = None
fields_of_entry (a_value e i v) = None
fields_of_entry (a_service s) = None
fields_of_entry (a_method m) = None

-- the fields of the entry at a place, if there is one
abbrev pub entry_read : Tables → ℕ → Option (List DeclaredField)
entry_read t p = option_and_then (λ d. fields_of_entry (declaration_view d).item) (slice_get t.row.now p)

-- the kinds of the key and the value of an entry, where its fields name these types
abbrev pub parts_read : Tables → List TypeNames → List DeclaredField → Kind × Kind
parts_read t names [] = (kind.Bool, kind.Bool)
parts_read t names (f ∷ []) = (kind.Bool, kind.Bool)
parts_read t names (f ∷ g ∷ []) =
    if bytes_eq key_name f.name then (kind_of_number f.type_code, kind_read t (place_named names 1) g.type_code)
    else (kind_of_number g.type_code, kind_read t (place_named names 0) f.type_code)
parts_read t names (f ∷ g ∷ h ∷ fs) = (kind.Bool, kind.Bool)

abbrev pub map_field : DeclaredField → Kind × Kind → FieldView
map_field f parts = record { name = f.name; number = number_of f.number; kind = parts.1; shape = shape.Map parts.0 }

-- a field that names the type at a place, which is an entry with these fields, or is none
abbrev pub field_by_fields : Bool → Tables → ℕ → DeclaredField → Option (List DeclaredField) → FieldView
field_by_fields two t p f None = with_kind two f (kind_read t (Some p) f.type_code)
field_by_fields two t p f (Some fs) = map_field f (parts_read t (drop (p + 1) t.found.now) fs)

abbrev pub field_by_place : Bool → Tables → DeclaredField → Option ℕ → FieldView
field_by_place two t f None = with_kind two f (kind_of_number f.type_code)
field_by_place two t f (Some p) = field_by_fields two t p f (entry_read t p)

-- the fields of a message, from an index on, by whether its file is of proto2
abbrev pub fields_read : Bool → Tables → List TypeNames → ℕ → List DeclaredField → List FieldView
fields_read two t names i [] = []
fields_read two t names i (f ∷ fs) = field_by_place two t f (place_named names i) ∷ fields_read two t names (i + 1) fs

-- the names of those of a message's oneofs, from an index on, that are not synthetic
abbrev pub real_from : MessageHead → ℕ → List (List ℕ) → List (List ℕ)
real_from head i names = map (λ e. e.1) (filter (λ e. not (is_synthetic head e.0)) (enumerate_from i names))

abbrev pub message_of_kind : Kind → Option ℕ
message_of_kind (kind.Message m) = Some m.0
message_of_kind (kind.Enum _) = None
message_of_kind (kind.Group _) = None
message_of_kind (kind.ClosedEnum _) = None
message_of_kind kind.Double = None
message_of_kind kind.Float = None
message_of_kind kind.Int64 = None
message_of_kind kind.Uint64 = None
message_of_kind kind.Int32 = None
message_of_kind kind.Fixed64 = None
message_of_kind kind.Fixed32 = None
message_of_kind kind.Bool = None
message_of_kind kind.Text = None
message_of_kind kind.Bytes = None
message_of_kind kind.Uint32 = None
message_of_kind kind.Sfixed32 = None
message_of_kind kind.Sfixed64 = None
message_of_kind kind.Sint32 = None
message_of_kind kind.Sint64 = None

-- the index of the message at a place
abbrev pub parent_read : Tables → ℕ → Option ℕ
parent_read t p = option_and_then message_of_kind (slice_get t.kinds.items p)

-- the file of an index is of proto2
abbrev pub is_read_two : Tables → ℕ → Bool
is_read_two t file = is_two (map file_view t.files.now) file

abbrev pub message_read : Tables → ℕ → Declaration → MessageHead → MessageView
message_read t place d head = record {
  name = head.name;
  file = d.file;
  parent = parent_read t d.parent;
  fields = fields_read (is_read_two t d.file) t (drop (place + 1) t.found.now) 0 head.fields;
  oneofs = real_oneofs head;
}

abbrev pub message_part : Tables → ℕ → Declaration → Item → Option MessageView
message_part t place d (a_message head inner) = if head.is_entry then None else Some (message_read t place d head)
message_part t place d (a_file f) = None
message_part t place d (a_field head i f) = None
message_part t place d (a_oneof head i name) = None
message_part t place d (an_enum e) = None
message_part t place d (a_value e i v) = None
message_part t place d (a_service s) = None
message_part t place d (a_method m) = None

abbrev pub enum_read : Tables → Declaration → DeclaredEnum → EnumView
enum_read t d e = record { name = e.name; file = d.file; parent = parent_read t d.parent; values = e.values }

abbrev pub enum_part : Tables → Declaration → Item → Option EnumView
enum_part t d (an_enum e) = Some (enum_read t d e)
enum_part t d (a_file f) = None
enum_part t d (a_message head inner) = None
enum_part t d (a_field head i f) = None
enum_part t d (a_oneof head i name) = None
enum_part t d (a_value e i v) = None
enum_part t d (a_service s) = None
enum_part t d (a_method m) = None

-- the message types of declarations, the first of which is at this place
abbrev pub messages_read : Tables → ℕ → List Declaration → List MessageView
messages_read t place [] = []
messages_read t place (d ∷ ds) = cons_option (message_part t place d d.item) (messages_read t (place + 1) ds)

abbrev pub enums_read : Tables → List Declaration → List EnumView
enums_read t [] = []
enums_read t (d ∷ ds) = cons_option (enum_part t d d.item) (enums_read t ds)
