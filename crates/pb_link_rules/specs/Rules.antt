-- The rules of linking, each a test of one declaration beside the others. `true` says that the rule holds.
use Rattle.std.specs.Prelude.{ℕ, ℤ, pos, negsuc, ◌^◌, List, [], ◌∷◌, length, take, filter, codes, Bool, true, false, not}
use Rattle.std.specs.Prelude.{◌==◌, ◌&&◌, ◌||◌, nat_lt, nat_le, Option, Some, None, is_some, is_none, slice_get}
use Rattle.std.specs.List.{list_any, list_all}
use Rattle.std.specs.Option.{option_map_or}
use Rattle.std.specs.Ordering.{int_eq}
use Rattle.std.specs.Str.{bytes_eq}
use Rattle.pb_schema.specs.Names.{is_word, is_package, entry_name}
use Rattle.pb_declarations.specs.declared.decl.TypeCode.{TypeCode}
use Rattle.pb_declarations.specs.declared.decl.TypeCode.TheVariants as code
use Rattle.pb_declarations.specs.Decls.{DeclaredField, DeclaredEnum, MessageHead, DeclaredMessages, no_messages, more_messages, DeclaredFile}
use Rattle.pb_link_names.specs.Sees.{Sight}
use Rattle.pb_link_names.specs.Declarations.{Item, a_file, a_message, a_field, a_oneof, an_enum, a_value, a_service}
use Rattle.pb_link_names.specs.Declarations.{a_method, Declaration, simple_name, is_named, full_name, has_name}
use Rattle.pb_link_names.specs.Lookup.{Found, found, not_found, not_visible, not_a_type, looked_up, is_package_name, every_file}

-- WHAT THE RULES SPEAK OF: all declarations, what files see, and the files
pub record World : Type 0 where
  pub declared : List Declaration
  pub sight : Sight
  pub files : List DeclaredFile

abbrev pub two_of : Option DeclaredFile → Bool
two_of None = false
two_of (Some f) = f.is_proto2

-- the file of an index is of the syntax proto2
abbrev pub is_two : List DeclaredFile → ℕ → Bool
is_two files i = two_of (slice_get files i)

abbrev pub item_of : Option Declaration → Option Item
item_of None = None
item_of (Some d) = Some d.item

abbrev pub item_at : World → ℕ → Option Item
item_at w place = item_of (slice_get w.declared place)

-- what a type name comes to in a declaration's scope
abbrev pub lookup_at : World → Declaration → List ℕ → Found
lookup_at w d name = looked_up w.declared (w.sight.sees d.file) d.scope name

abbrev pub lookups_if : World → Declaration → Option (List ℕ) → List Found
lookups_if w d None = []
lookups_if w d (Some name) = lookup_at w d name ∷ []

-- what the type names of a field or method come to; other declarations have none
abbrev pub lookups : World → Declaration → List Found
lookups w d = by_item d.item
  where
    by_item : Item → List Found
    by_item (a_field head i f) = lookups_if w d f.type_name
    by_item (a_method m) = lookup_at w d m.input ∷ lookup_at w d m.output ∷ []
    by_item (a_file f) = []
    by_item (a_message head inner) = []
    by_item (a_oneof head i name) = []
    by_item (an_enum e) = []
    by_item (a_value e i v) = []
    by_item (a_service s) = []

-- the place of a type that was found
abbrev pub place_found : Found → Option ℕ
place_found (found place) = Some place
place_found not_found = None
place_found not_visible = None
place_found not_a_type = None

-- the same test of what is declared
abbrev pub passes_declared : World → (Declaration → Bool) → Found → Bool
passes_declared w test (found place) = option_map_or test (slice_get w.declared place) true
passes_declared w test not_found = true
passes_declared w test not_visible = true
passes_declared w test not_a_type = true

-- what was found passes a test; a name that is not found rests on nothing, and passes
abbrev pub passes : World → (Item → Bool) → Found → Bool
passes w test (found place) = option_map_or test (item_at w place) true
passes w test not_found = true
passes w test not_visible = true
passes w test not_a_type = true

abbrev pub is_entry : Item → Bool
is_entry (a_file f) = false
is_entry (a_message head inner) = head.is_entry
is_entry (a_field head i f) = false
is_entry (a_oneof head i name) = false
is_entry (an_enum e) = false
is_entry (a_value e i v) = false
is_entry (a_service s) = false
is_entry (a_method m) = false

abbrev pub is_not_entry : Item → Bool
is_not_entry i = not (is_entry i)

abbrev pub is_message : Item → Bool
is_message (a_file f) = false
is_message (a_message head inner) = true
is_message (a_field head i f) = false
is_message (a_oneof head i name) = false
is_message (an_enum e) = false
is_message (a_value e i v) = false
is_message (a_service s) = false
is_message (a_method m) = false

abbrev pub is_enum : Item → Bool
is_enum (a_file f) = false
is_enum (a_message head inner) = false
is_enum (a_field head i f) = false
is_enum (a_oneof head i name) = false
is_enum (an_enum e) = true
is_enum (a_value e i v) = false
is_enum (a_service s) = false
is_enum (a_method m) = false

-- a message is a type where it is no entry
abbrev pub is_message_type : Item → Bool
is_message_type (a_message head inner) = not head.is_entry
is_message_type (a_file f) = false
is_message_type (a_field head i f) = false
is_message_type (a_oneof head i name) = false
is_message_type (an_enum e) = false
is_message_type (a_value e i v) = false
is_message_type (a_service s) = false
is_message_type (a_method m) = false

abbrev pub is_field : Item → Bool
is_field (a_file f) = false
is_field (a_message head inner) = false
is_field (a_field head i f) = true
is_field (a_oneof head i name) = false
is_field (an_enum e) = false
is_field (a_value e i v) = false
is_field (a_service s) = false
is_field (a_method m) = false

-- FILES

-- a file of this name
abbrev pub is_file_named : List ℕ → Item → Bool
is_file_named name (a_file f) = bytes_eq name f.name
is_file_named name (a_message head inner) = false
is_file_named name (a_field head i f) = false
is_file_named name (a_oneof head i oneof) = false
is_file_named name (an_enum e) = false
is_file_named name (a_value e i v) = false
is_file_named name (a_service s) = false
is_file_named name (a_method m) = false

-- TwoFiles: no earlier file has this name
abbrev pub file_name_is_first : World → ℕ → DeclaredFile → Bool
file_name_is_first w place f = not (list_any (λ d. is_file_named f.name d.item) (take place w.declared))

-- the index of an import
abbrev pub is_import_index : DeclaredFile → ℤ → Bool
is_import_index f (pos i) = nat_lt i (length f.imports)
is_import_index f (negsuc i) = false

-- MissingImport: there are at most 2 ^ 31 - 1 imports; every import names a file of the list; every public index lies in the imports
abbrev pub imports_are_there : World → DeclaredFile → Bool
imports_are_there w f =
    nat_lt (length f.imports) (2 ^ 31)
    && list_all (λ name. list_any (λ d. is_file_named name d.item) w.declared) f.imports
    && list_all (is_import_index f) f.public_indexes

-- ImportCycle: the file does not reach itself by imports
abbrev pub reaches_no_cycle : World → Declaration → Bool
reaches_no_cycle w d = not (w.sight.is_cyclic d.file)

-- NAMES

-- BadName: the file's name is not empty; the package is empty or words joined by dots; a declared name is a word
abbrev pub name_is_right : Item → Bool
name_is_right (a_file f) = not (length f.name == 0) && is_package f.package_name
name_is_right (a_message head inner) = not (is_named (a_message head inner)) || is_word (simple_name (a_message head inner))
name_is_right (a_field head i f) = not (is_named (a_field head i f)) || is_word (simple_name (a_field head i f))
name_is_right (a_oneof head i name) = not (is_named (a_oneof head i name)) || is_word (simple_name (a_oneof head i name))
name_is_right (an_enum e) = not (is_named (an_enum e)) || is_word (simple_name (an_enum e))
name_is_right (a_value e i v) = not (is_named (a_value e i v)) || is_word (simple_name (a_value e i v))
name_is_right (a_service s) = not (is_named (a_service s)) || is_word (simple_name (a_service s))
name_is_right (a_method m) = not (is_named (a_method m)) || is_word (simple_name (a_method m))

-- NameTaken: no earlier declaration has this full name, and no package has it
abbrev pub name_is_free : World → ℕ → Declaration → Bool
name_is_free w place d =
    not (is_named d.item)
    || (not (list_any (has_name (full_name d)) (take place w.declared)) && not (is_package_name w.declared every_file (full_name d)))

-- both are the same fault
abbrev pub is_same_fault : Found → Found → Bool
is_same_fault (found p) other = false
is_same_fault not_found (found q) = false
is_same_fault not_found not_found = true
is_same_fault not_found not_visible = false
is_same_fault not_found not_a_type = false
is_same_fault not_visible (found q) = false
is_same_fault not_visible not_found = false
is_same_fault not_visible not_visible = true
is_same_fault not_visible not_a_type = false
is_same_fault not_a_type (found q) = false
is_same_fault not_a_type not_found = false
is_same_fault not_a_type not_visible = false
is_same_fault not_a_type not_a_type = true

-- NotFound, NotVisible, NotAType: the type name is found
abbrev pub is_looked_up : Found → World → Declaration → Bool
is_looked_up fault w d = not (list_any (is_same_fault fault) (lookups w d))

-- NUMBERS

-- BadNumber: 1 to 536,870,911, and not 19,000 to 19,999
abbrev pub is_field_number : ℤ → Bool
is_field_number (pos n) = nat_le 1 n && nat_lt n (2 ^ 29) && (nat_lt n 19000 || nat_lt 19999 n)
is_field_number (negsuc n) = false

-- ONEOFS

-- a field that is marked `proto3_optional`
abbrev pub is_marked_optional : Item → Bool
is_marked_optional (a_field head i f) = f.is_optional
is_marked_optional (a_file f) = false
is_marked_optional (a_message head inner) = false
is_marked_optional (a_oneof head i name) = false
is_marked_optional (an_enum e) = false
is_marked_optional (a_value e i v) = false
is_marked_optional (a_service s) = false
is_marked_optional (a_method m) = false

-- MAPS

-- what was found is the type at a place
abbrev pub is_found_at : ℕ → Found → Bool
is_found_at p (found q) = p == q
is_found_at p not_found = false
is_found_at p not_visible = false
is_found_at p not_a_type = false

-- the declaration is a field whose type is the one at a place
abbrev pub uses : World → ℕ → Declaration → Bool
uses w place d = is_field d.item && list_any (is_found_at place) (lookups w d)

-- a field is repeated and gives an entry its name
abbrev pub gives_name : Item → Item → Bool
gives_name (a_field head i f) (a_message e inner) = f.is_repeated && bytes_eq (entry_name f.name) e.name
gives_name (a_field head i f) (a_file g) = false
gives_name (a_field head i f) (a_field h j g) = false
gives_name (a_field head i f) (a_oneof h j name) = false
gives_name (a_field head i f) (an_enum e) = false
gives_name (a_field head i f) (a_value e j v) = false
gives_name (a_field head i f) (a_service s) = false
gives_name (a_field head i f) (a_method m) = false
gives_name (a_file f) entry = false
gives_name (a_message head inner) entry = false
gives_name (a_oneof head i name) entry = false
gives_name (an_enum e) entry = false
gives_name (a_value e i v) entry = false
gives_name (a_service s) entry = false
gives_name (a_method m) entry = false

-- a field is repeated, is declared in the message around an entry, and gives it its name
abbrev pub is_map_field : Declaration → Declaration → Bool
is_map_field entry d = (d.parent == entry.parent) && gives_name d.item entry.item

abbrev pub is_one_map_field : Declaration → List Declaration → Bool
is_one_map_field entry [] = false
is_one_map_field entry (d ∷ []) = is_map_field entry d
is_one_map_field entry (d ∷ e ∷ ds) = false

-- an entry message is used by exactly one field, and that is a map field of it
abbrev pub has_one_use : World → ℕ → Declaration → Bool
has_one_use w place entry = is_one_map_field entry (filter (uses w place) w.declared)

-- the type number of a group
abbrev pub is_group : Option TypeCode → Bool
is_group None = false
is_group (Some code.Group) = true
is_group (Some code.Double) = false
is_group (Some code.Float) = false
is_group (Some code.Int64) = false
is_group (Some code.Uint64) = false
is_group (Some code.Int32) = false
is_group (Some code.Fixed64) = false
is_group (Some code.Fixed32) = false
is_group (Some code.Bool) = false
is_group (Some code.Text) = false
is_group (Some code.Message) = false
is_group (Some code.Bytes) = false
is_group (Some code.Uint32) = false
is_group (Some code.Enum) = false
is_group (Some code.Sfixed32) = false
is_group (Some code.Sfixed64) = false
is_group (Some code.Sint32) = false
is_group (Some code.Sint64) = false

-- the type numbers of key types
abbrev pub is_key_code : TypeCode → Bool
is_key_code code.Int64 = true
is_key_code code.Uint64 = true
is_key_code code.Int32 = true
is_key_code code.Fixed64 = true
is_key_code code.Fixed32 = true
is_key_code code.Bool = true
is_key_code code.Text = true
is_key_code code.Uint32 = true
is_key_code code.Sfixed32 = true
is_key_code code.Sfixed64 = true
is_key_code code.Sint32 = true
is_key_code code.Sint64 = true
is_key_code code.Double = false
is_key_code code.Float = false
is_key_code code.Group = false
is_key_code code.Message = false
is_key_code code.Bytes = false
is_key_code code.Enum = false

-- a field of an entry, neither repeated nor in a oneof
abbrev pub is_part : List ℕ → ℕ → DeclaredField → Bool
is_part name number f = bytes_eq name f.name && int_eq (pos number) f.number && not f.is_repeated && is_none f.oneof

abbrev pub key_name : List ℕ
key_name = codes "key"

abbrev pub value_name : List ℕ
value_name = codes "value"

-- the value of an entry, which is no group
abbrev pub is_value_part : DeclaredField → Bool
is_value_part f = is_part value_name 2 f && not (is_group f.type_code)

-- a type name in an entry means no entry
abbrev pub is_no_entry : World → Declaration → List ℕ → Bool
is_no_entry w entry name = passes w is_not_entry (looked_up w.declared (w.sight.sees entry.file) (full_name entry) name)

-- the fields key = 1, of a key type, and value = 2, which is no group and no entry
abbrev pub are_key_and_value : World → Declaration → DeclaredField → DeclaredField → Bool
are_key_and_value w entry k v =
    is_part key_name 1 k && is_value_part v && option_map_or is_key_code k.type_code false
    && option_map_or (is_no_entry w entry) v.type_name true

abbrev pub has_key_and_value : World → Declaration → List DeclaredField → Bool
has_key_and_value w entry (f ∷ g ∷ []) = are_key_and_value w entry f g || are_key_and_value w entry g f
has_key_and_value w entry [] = false
has_key_and_value w entry (f ∷ []) = false
has_key_and_value w entry (f ∷ g ∷ h ∷ fs) = false

abbrev pub has_nothing_inside : MessageHead → DeclaredMessages → Bool
has_nothing_inside head inner = is_nothing inner && (length head.enums == 0) && (length head.oneofs == 0)
  where
    is_nothing : DeclaredMessages → Bool
    is_nothing no_messages = true
    is_nothing (more_messages m ms) = false

-- an entry that a field uses is that of the map field
abbrev pub is_used_rightly : World → Declaration → Found → Bool
is_used_rightly w d (found q) = option_map_or (λ e. not (is_entry e.item) || is_map_field e d) (slice_get w.declared q) true
is_used_rightly w d not_found = true
is_used_rightly w d not_visible = true
is_used_rightly w d not_a_type = true

-- BadMap. At an entry: it is used by exactly one field, repeated, in the message around it, which gives it its name; it has exactly the
-- fields key = 1 and value = 2, and nothing inside. At a field that uses an entry: it is repeated, in the message around the entry, and gives
-- it its name. At a method: it uses no entry.
abbrev pub is_map_right : World → ℕ → Declaration → Bool
is_map_right w place d = by_item d.item
  where
    by_item : Item → Bool
    by_item (a_message head inner) =
        not head.is_entry || (has_one_use w place d && has_key_and_value w d head.fields && has_nothing_inside head inner)
    by_item (a_field head i f) = list_all (is_used_rightly w d) (lookups w d)
    by_item (a_method m) = list_all (passes w is_not_entry) (lookups w d)
    by_item (a_file f) = true
    by_item (a_oneof head i name) = true
    by_item (an_enum e) = true
    by_item (a_value e i v) = true
    by_item (a_service s) = true

-- KINDS

-- the type numbers of packable kinds
abbrev pub is_packable_code : TypeCode → Bool
is_packable_code code.Text = false
is_packable_code code.Group = false
is_packable_code code.Message = false
is_packable_code code.Bytes = false
is_packable_code code.Double = true
is_packable_code code.Float = true
is_packable_code code.Int64 = true
is_packable_code code.Uint64 = true
is_packable_code code.Int32 = true
is_packable_code code.Fixed64 = true
is_packable_code code.Fixed32 = true
is_packable_code code.Bool = true
is_packable_code code.Uint32 = true
is_packable_code code.Enum = true
is_packable_code code.Sfixed32 = true
is_packable_code code.Sfixed64 = true
is_packable_code code.Sint32 = true
is_packable_code code.Sint64 = true

abbrev pub is_packable_by : World → Declaration → Option (List ℕ) → Option TypeCode → Bool
is_packable_by w d name (Some c) = is_packable_code c
is_packable_by w d name None = is_some name && list_all (passes w is_enum) (lookups w d)

-- the field is of a packable kind, by its type number, or else by what its type name means; a name that is not found passes
abbrev pub is_packable : World → Declaration → DeclaredField → Bool
is_packable w d f = is_packable_by w d f.type_name f.type_code

-- BadPacked: `packed = true` is set only on a repeated field of a packable kind
abbrev pub is_packed_right : World → Declaration → DeclaredField → Bool
is_packed_right w d f = not (option_map_or (λ b. b) f.packed false) || (f.is_repeated && is_packable w d f)

-- BadEnum: there is a first value, and its number is 0 but in a file of proto2
abbrev pub begins_right : Bool → DeclaredEnum → Bool
begins_right two e = is_right_first two e.values
  where
    is_right_first : Bool → List (List ℕ × ℤ) → Bool
    is_right_first two [] = false
    is_right_first true (v ∷ vs) = true
    is_right_first false (v ∷ vs) = int_eq v.1 (pos 0)

abbrev pub is_type_by : World → Declaration → Option (List ℕ) → Option TypeCode → Bool
is_type_by w d name None = is_some name
is_type_by w d name (Some code.Group) = is_two w.files d.file && (is_some name && list_all (passes w is_message_type) (lookups w d))
is_type_by w d name (Some code.Message) = is_some name && list_all (passes w is_message) (lookups w d)
is_type_by w d name (Some code.Enum) = is_some name && list_all (passes w is_enum) (lookups w d)
is_type_by w d name (Some code.Double) = is_none name
is_type_by w d name (Some code.Float) = is_none name
is_type_by w d name (Some code.Int64) = is_none name
is_type_by w d name (Some code.Uint64) = is_none name
is_type_by w d name (Some code.Int32) = is_none name
is_type_by w d name (Some code.Fixed64) = is_none name
is_type_by w d name (Some code.Fixed32) = is_none name
is_type_by w d name (Some code.Bool) = is_none name
is_type_by w d name (Some code.Text) = is_none name
is_type_by w d name (Some code.Bytes) = is_none name
is_type_by w d name (Some code.Uint32) = is_none name
is_type_by w d name (Some code.Sfixed32) = is_none name
is_type_by w d name (Some code.Sfixed64) = is_none name
is_type_by w d name (Some code.Sint32) = is_none name
is_type_by w d name (Some code.Sint64) = is_none name

-- KindMismatch at a field: a type number or a type name is given; a given number agrees with what the name means; a scalar has no type name;
-- MESSAGE and ENUM have one, and GROUP, which only files of proto2 have, has one that means no entry
abbrev pub is_type_right : World → Declaration → DeclaredField → Bool
is_type_right w d f = is_type_by w d f.type_name f.type_code

-- a field of an entry
abbrev pub is_of_entry : Item → Bool
is_of_entry (a_field head i f) = head.is_entry
is_of_entry (a_file f) = false
is_of_entry (a_message head inner) = false
is_of_entry (a_oneof head i name) = false
is_of_entry (an_enum e) = false
is_of_entry (a_value e i v) = false
is_of_entry (a_service s) = false
is_of_entry (a_method m) = false

-- an enum of a file of proto2
abbrev pub is_closed : List DeclaredFile → Declaration → Bool
is_closed files e = is_enum e.item && is_two files e.file

abbrev pub is_open : List DeclaredFile → Declaration → Bool
is_open files e = not (is_closed files e)

-- ClosedEnum: a field's type is an enum of a file of proto2 only if the field is in such a file itself, and not in an entry
abbrev pub is_enum_right : World → Declaration → Bool
is_enum_right w d = (is_two w.files d.file && not (is_of_entry d.item)) || list_all (passes_declared w (is_open w.files)) (lookups w d)
