-- Names of members (ProtoJSON format, "Field names"; protoc's default for `json_name`).
use Rattle.std.specs.Prelude.{ℕ, List, [], ◌∷◌, ◌++◌, Bool, true, false, ◌==◌, if◌then◌else◌, unwrap_or}
use Rattle.std.specs.Char.{to_ascii_uppercase}
use Rattle.pb_schema.specs.Types.{FieldView}
use Rattle.pb_json.specs.Given.{NamesGiven, name_given}
use Rattle.pb_json.specs.JsonText.{string_byte}
use Rattle.pb_json.specs.declared.form.Names.{Names}
use Rattle.pb_json.specs.declared.form.Names.TheVariants.{LowerCamel, Declared, Given}

abbrev pub cased : Bool → ℕ → ℕ
cased true c = to_ascii_uppercase c
cased false c = c

-- a letter, and nothing for an underscore
abbrev pub camel_letter : Bool → ℕ → List ℕ
camel_letter raised c = if c == 95 then [] else cased raised c ∷ []

-- without underscores; the letter after one is upper case, and the first letter where the flag says so
abbrev pub camel_from : Bool → List ℕ → List ℕ
camel_from raised [] = []
camel_from raised (c ∷ cs) = camel_letter raised c ++ camel_from (c == 95) cs

abbrev pub lower_camel : List ℕ → List ℕ
lower_camel name = camel_from false name

-- what a byte of a name is written as
abbrev pub camel_bytes : Bool → ℕ → List ℕ
camel_bytes raised c = if c == 95 then [] else string_byte (cased raised c)

-- the name of a field of a message type in JSON: that which it is given, or else that in lowerCamelCase
abbrev pub json_name : NamesGiven → ℕ → FieldView → List ℕ
json_name names m f = unwrap_or (name_given names m f.number) (lower_camel f.name)

-- the name of a field of a message type in this form
abbrev pub member_name : Names → ℕ → FieldView → List ℕ
member_name LowerCamel m f = lower_camel f.name
member_name Declared m f = f.name
member_name (Given names) m f = json_name names.now m f
