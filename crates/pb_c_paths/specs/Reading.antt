-- What comes next in a path.
use Rattle.std.specs.Prelude.{ℕ, ◌-◌, nat_le, Bool, true, false, ◌==◌, ◌&&◌, if◌then◌else◌, Option, Some, None}
use Rattle.pb_schema.specs.declared.types.Kind.{Kind}
use Rattle.pb_schema.specs.declared.types.Kind.TheVariants as kind
use Rattle.pb_schema.specs.declared.types.MessageId.{MessageId}
use Rattle.pb_schema.specs.declared.types.Shape.{Shape}
use Rattle.pb_schema.specs.declared.types.Shape.TheVariants as shape
use Rattle.pb_c_paths.specs.declared.reading.Reading.{Reading}
use Rattle.pb_c_paths.specs.declared.reading.Reading.TheVariants as next

-- a field of a message
abbrev pub name_in : Kind → Option Reading
name_in (kind.Message m) = Some (next.Name m)
name_in (kind.Group m) = Some (next.Name m)
name_in kind.Double = None
name_in kind.Float = None
name_in kind.Int64 = None
name_in kind.Uint64 = None
name_in kind.Int32 = None
name_in kind.Fixed64 = None
name_in kind.Fixed32 = None
name_in kind.Bool = None
name_in kind.Text = None
name_in kind.Bytes = None
name_in kind.Uint32 = None
name_in (kind.Enum e) = None
name_in (kind.ClosedEnum e) = None
name_in kind.Sfixed32 = None
name_in kind.Sfixed64 = None
name_in kind.Sint32 = None
name_in kind.Sint64 = None

-- after a value: a dot, and a name
abbrev pub after_value : Kind → ℕ → Option Reading
after_value k c = if c == 46 then name_in k else None

abbrev pub is_string : Kind → Bool
is_string kind.Text = true
is_string kind.Double = false
is_string kind.Float = false
is_string kind.Int64 = false
is_string kind.Uint64 = false
is_string kind.Int32 = false
is_string kind.Fixed64 = false
is_string kind.Fixed32 = false
is_string kind.Bool = false
is_string kind.Bytes = false
is_string kind.Uint32 = false
is_string kind.Sfixed32 = false
is_string kind.Sfixed64 = false
is_string kind.Sint32 = false
is_string kind.Sint64 = false
is_string (kind.Enum e) = false
is_string (kind.ClosedEnum e) = false
is_string (kind.Message m) = false
is_string (kind.Group m) = false

-- a string in quotes, and else digits or a word
abbrev pub key_in : Kind → Kind → Reading
key_in key k = if is_string key then next.Quote k else next.Key key k

-- in the brackets after a list or a map
abbrev pub bracketed : Shape → Kind → Option Reading
bracketed (shape.List packed) k = Some (next.Index k)
bracketed (shape.Map key) k = Some (key_in key k)
bracketed shape.Implicit k = None
bracketed shape.Explicit k = None
bracketed (shape.OneofMember o) k = None

abbrev pub is_many : Shape → Bool
is_many (shape.List packed) = true
is_many (shape.Map key) = true
is_many shape.Implicit = false
is_many shape.Explicit = false
is_many (shape.OneofMember o) = false

-- after the name of a field: a bracket after a list or a map, and else what comes after a value
abbrev pub after_name : Shape → Kind → ℕ → Option Reading
after_name s k c = if c == 91 then bracketed s k else (if is_many s then None else after_value k c)

-- a digit of base 16
abbrev pub digit_of : ℕ → Option ℕ
digit_of c =
    if nat_le 48 c && nat_le c 57 then Some (c - 48) else
    (if nat_le 65 c && nat_le c 70 then Some (c - 55) else
    (if nat_le 97 c && nat_le c 102 then Some (c - 87) else None))
