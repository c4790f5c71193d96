-- Which field the name of a member means (ProtoJSON format, "Field names": "Parsers accept both the lowerCamelCase name (or the one specified by
-- the `json_name` option) and the original proto field name").
use Rattle.std.specs.Prelude.{ℕ, List, Bool, false, Option, None, Some, find}
use Rattle.std.specs.Option.{option_or}
use Rattle.std.specs.Str.{bytes_eq}
use Rattle.pb_schema.specs.Types.{FieldView, Types, message_fields}
use Rattle.pb_schema.specs.Tables.{field_named}
use Rattle.pb_json.specs.Given.{NamesGiven, name_given}
use Rattle.pb_json.specs.JsonNames.{json_name}

abbrev pub is_given : Option (List ℕ) → List ℕ → Bool
is_given None name = false
is_given (Some given) name = bytes_eq given name

-- the first field that is given the name
abbrev pub field_given : NamesGiven → ℕ → List FieldView → List ℕ → Option FieldView
field_given names m fs name = find (λ f. is_given (name_given names m f.number) name) fs

-- the first field whose name in JSON this is
abbrev pub field_in_json : NamesGiven → ℕ → List FieldView → List ℕ → Option FieldView
field_in_json names m fs name = find (λ f. bytes_eq (json_name names m f) name) fs

-- the field that is given the name, or is declared by it, or else that whose name in lowerCamelCase it is
abbrev pub field_among : NamesGiven → ℕ → List FieldView → List ℕ → Option FieldView
field_among names m fs name = option_or (field_given names m fs name) (option_or (field_named name fs) (field_in_json names m fs name))

-- the field of the message type at an index that a name means
abbrev pub field_meant : NamesGiven → Types → ℕ → List ℕ → Option FieldView
field_meant names pool m name = field_among names m (message_fields pool m) name
