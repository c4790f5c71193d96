-- How the rules of map fields are read off the row: words for the contracts of private functions. No public contract rests on them.
use Rattle.std.specs.Prelude.{ℕ, ◌+◌, List, [], ◌∷◌, Bool, true, false, not, ◌&&◌, ◌||◌}
use Rattle.std.specs.List.{list_all, slice_index_or}
use Rattle.std.specs.Option.{option_map_or}
use Rattle.pb_declarations.specs.Decls.{DeclaredField, DeclaredMessage, message, inner_of}
use Rattle.pb_link_names.specs.declared.found.TypeNames.{TypeNames}
use Rattle.pb_link_names.specs.declared.found.TypeNames.TheVariants as type_names
use Rattle.pb_link_names.specs.Declarations.{Item, a_file, a_message, a_field, a_oneof, an_enum, a_value, a_service, a_method, Declaration, head_of}
use Rattle.pb_link_names.specs.View.{type_names_view}
use Rattle.pb_link_rules.specs.Rules.{World, passes, is_not_entry, is_used_rightly, has_nothing_inside, is_part, is_value_part, key_name, is_key_code}

-- the key and the value of an entry, by whether the value is no entry
abbrev pub are_right_parts : DeclaredField → DeclaredField → Bool → Bool
are_right_parts k v is_plain = is_part key_name 1 k && is_value_part v && option_map_or is_key_code k.type_code false && is_plain

-- two fields are a key and a value, by which of them are no entries
abbrev pub right_parts : List DeclaredField → Bool → Bool → Bool
right_parts [] first second = false
right_parts (f ∷ []) first second = false
right_parts (f ∷ g ∷ []) first second = are_right_parts f g second || are_right_parts g f first
right_parts (f ∷ g ∷ h ∷ fs) first second = false

abbrev pub is_right_entry : Bool → Bool → Bool → Bool → Bool
is_right_entry is_entry is_used has_parts is_bare = not is_entry || (is_used && has_parts && is_bare)

-- what was found are no entries
abbrev pub are_plain : World → TypeNames → Bool
are_plain w names = list_all (passes w is_not_entry) (type_names_view names)

abbrev pub names_of_place : List TypeNames → ℕ → TypeNames
names_of_place all place = slice_index_or all place type_names.None

-- the rule of entries for the message at a place, by the types found for its fields, which follow it
abbrev pub entry_rule : World → List TypeNames → ℕ → DeclaredMessage → Bool → Bool
entry_rule w all place t is_used =
    is_right_entry (head_of t).is_entry is_used
    (right_parts (head_of t).fields (are_plain w (names_of_place all (place + 1))) (are_plain w (names_of_place all (place + 2))))
    (has_nothing_inside (head_of t) (inner_of t))

-- the rules of map fields, by what was found
abbrev pub map_rule : World → List TypeNames → ℕ → Declaration → Bool → Item → Bool
map_rule w all place d is_used (a_message head inner) = entry_rule w all place (message head inner) is_used
map_rule w all place d is_used (a_field head i f) = list_all (is_used_rightly w d) (type_names_view (names_of_place all place))
map_rule w all place d is_used (a_method m) = are_plain w (names_of_place all place)
map_rule w all place d is_used (a_file f) = true
map_rule w all place d is_used (a_oneof head i name) = true
map_rule w all place d is_used (an_enum e) = true
map_rule w all place d is_used (a_value e i v) = true
map_rule w all place d is_used (a_service s) = true
