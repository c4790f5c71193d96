-- A `google.protobuf.Any` from the members of a JSON object (ProtoJSON format, "Any"; any.proto). The member `@type`, wherever it is, is the URL of a
-- type. The other members are those of a message of the type, or its form as the member `value` where the type has a form of its own.
use Rattle.std.specs.Prelude.{◌≡◌, ◌⊎◌, ℕ, ◌<◌, ◌≤◌, ◌^◌, ◌==◌, List, [], ◌∷◌, length, Bool, true, false, not, ◌&&◌, Option, Some, None, Ok, Err}
use Rattle.std.specs.Prelude.{option_map, option_and_then, codes, if◌then◌else◌}
use Rattle.std.specs.Str.{bytes_eq}
use Rattle.pb_schema.specs.declared.types.Kind.TheVariants as kind
use Rattle.pb_schema.specs.declared.types.Shape.TheVariants as shape
use Rattle.pb_schema.specs.Names.{message_names, name_at}
use Rattle.pb_schema.specs.Types.{FieldView, Types, field_numbered, message_fields}
use Rattle.pb_schema.specs.Scalar.{text, bytes}
use Rattle.pb_value.specs.Canon.{canon_bytes}
use Rattle.pb_value.specs.Data.{Datum, scalar, message, Holding, one, list, map, Message, empty, fields_of, get_field}
use Rattle.pb_value.specs.WellFormed.{IsWellFormed}
use Rattle.pb_json.specs.Anys.{type_meant}
use Rattle.pb_json.specs.Given.{NamesGiven}
use Rattle.pb_json.specs.WellKnown.{is_plain, well_known}
use Rattle.pb_json_text.specs.Json.{Members, no_members, member, Placed}
use Rattle.pb_json_read.specs.declared.error.JsonReadCause.TheVariants.{RepeatedName, BadValue, TooDeep}
use Rattle.pb_json_read.specs.Faults.{fault}
use Rattle.pb_json_read.specs.Names.{field_meant}
use Rattle.pb_json_read.specs.Steps.{Read, After, Then, Made, NoValue, Parts, nothing, with_held, given}
use Rattle.pb_json_read.specs.WellKnown.{string_meant, takes}

-- THE TYPE

abbrev pub is_tag : List ℕ → Bool
is_tag name = bytes_eq name (codes "@type")

-- where the name of a member begins, and its value
abbrev pub Tag : Type 0
Tag = ℕ × Placed

abbrev pub tag_before : Bool → Tag → List Tag → List Tag
tag_before true tag more = tag ∷ more
tag_before false tag more = more

-- the members `@type`
abbrev pub tags : Members → List Tag
tags no_members = []
tags (member at name value_at j ms) = tag_before (is_tag name) (at, (value_at, j)) (tags ms)

-- the value of the one there is, if there is one
abbrev pub only_tag : List Tag → Read (Option Placed)
only_tag [] = Ok None
only_tag (tag ∷ []) = Ok (Some tag.1)
only_tag (tag ∷ second ∷ more) = Err (fault second.0 RepeatedName)

-- the URL, and the type of the pool that it names
abbrev pub url_meant : Types → List ℕ → Option (List ℕ × ℕ)
url_meant pool url = option_map (λ t. (url, t)) (type_meant pool url)

-- without `@type` there are no members
abbrev pub untagged : Members → Option Message
untagged no_members = Some empty
untagged (member at name value_at j ms) = None

-- THE OTHER MEMBERS

-- a message of a type with a form of its own is what one field holds
abbrev pub value_field : ℕ → FieldView
value_field t = record { name = codes "value"; number = 1; kind = kind.Message (record { 0 = t }); shape = shape.Explicit }

abbrev pub only_field : Bool → ℕ → Option FieldView
only_field true t = None
only_field false t = Some (value_field t)

-- `google.protobuf.Empty`, as Google's file declares it: it has no fields
abbrev pub is_empty_type : Types → ℕ → Bool
is_empty_type pool t = bytes_eq (name_at (message_names pool) t) (codes "google.protobuf.Empty") && length (message_fields pool t) == 0

-- the members of the message are beside `@type`
abbrev pub has_members : Types → ℕ → Bool
has_members pool t = is_plain (well_known pool t) && not (is_empty_type pool t)

-- that field, where the type has a form of its own; an Empty has the form of an object, as the member `value` too
abbrev pub field_of : Types → ℕ → Option FieldView
field_of pool t = only_field (has_members pool t) t

-- the field that a name means beside `@type`: the one, or that which it means in the type
abbrev pub beside : Option FieldView → (List ℕ → Option FieldView) → List ℕ → Option FieldView
beside None meant name = meant name
beside (Some f) meant name = if bytes_eq f.name name then Some f else None

abbrev pub message_of : Datum → Option Message
message_of (message b) = Some b
message_of (scalar x) = None

abbrev pub message_in : Holding → Option Message
message_in (one d) = message_of d
message_in (list ds) = None
message_in (map es) = None

-- what the one field holds; it may be left out of an Empty
abbrev pub message_held : Bool → Option Holding → Option Message
message_held is_empty (Some h) = message_in h
message_held is_empty None = if is_empty then Some empty else None

-- the message: what the one field holds, or what the members give
abbrev pub message_beside : Bool → Option FieldView → Message → Option Message
message_beside is_empty None b = Some b
message_beside is_empty (Some f) b = message_held is_empty (get_field f.number (fields_of b))

-- THE ANY

-- the canonical bytes of a message that nests at most 100 levels, fewer than 2^31
abbrev pub Encodes : Types → ℕ → ℕ → Message → Read (List ℕ) → Type 0
Encodes pool t at b (Ok bs) = IsWellFormed pool t b × (length bs < 2 ^ 31) × (bs ≡ canon_bytes pool t b)
Encodes pool t at b (Err e) =
    ((¬ IsWellFormed pool t b) × (e ≡ fault at TooDeep)) ⊎ (IsWellFormed pool t b × (2 ^ 31 ≤ length (canon_bytes pool t b)) × (e ≡ fault at BadValue))

-- the fields 1 and 2 for the URL and the bytes; nothing where the type declares no such fields
abbrev pub both_any : FieldView → FieldView → Option (FieldView × FieldView)
both_any f g = if takes f (text []) && takes g (bytes []) then Some (f, g) else None

abbrev pub any_fields : List FieldView → Option (FieldView × FieldView)
any_fields all = option_and_then (λ f. option_and_then (λ g. both_any f g) (field_numbered 2 all)) (field_numbered 1 all)

abbrev pub any_message : FieldView × FieldView → List ℕ → List ℕ → Message
any_message fs url bs =
    (with_held fs.1.shape fs.1.number (Some (one (scalar (bytes bs)))) (with_held fs.0.shape fs.0.number (Some (one (scalar (text url)))) nothing)).message

-- by what the members beside `@type` give; the object begins at this byte
module _ (pool : Types) (names : NamesGiven) (at : ℕ) (Beside : (List ℕ → Option FieldView) → Read Parts → Type 0) where
  -- the message of a type
  abbrev pub ReadsInAny : ℕ → Read Message → Type 0
  ReadsInAny t o =
      Then (Beside (beside (field_of pool t) (field_meant names pool t)))
      (λ p r. r ≡ given at (message_beside (is_empty_type pool t) (field_of pool t) p.message)) o

  -- its bytes
  abbrev pub ReadsEncoded : ℕ → Read (List ℕ) → Type 0
  ReadsEncoded t o = Then (ReadsInAny t) (λ b r. Encodes pool t at b r) o

  -- an Any of a URL, whose value begins at the byte
  abbrev pub ReadsNamed : FieldView × FieldView → ℕ → Option (List ℕ × ℕ) → Read Message → Type 0
  ReadsNamed fs url_at None o = NoValue url_at o
  ReadsNamed fs url_at (Some url) o = Made (ReadsEncoded url.1) (any_message fs url.0) o

  abbrev pub ReadsTagged : FieldView × FieldView → Members → Option Placed → Read Message → Type 0
  ReadsTagged fs ms None o = o ≡ given at (untagged ms)
  ReadsTagged fs ms (Some v) o = ReadsNamed fs v.0 (string_meant (url_meant pool) v.1) o

  abbrev pub ReadsAnyOf : Option (FieldView × FieldView) → Members → Read Message → Type 0
  ReadsAnyOf None ms o = NoValue at o
  ReadsAnyOf (Some fs) ms o = After (only_tag (tags ms)) (λ v r. ReadsTagged fs ms v r) o

  abbrev pub ReadsAny : ℕ → Members → Read Message → Type 0
  ReadsAny m ms o = ReadsAnyOf (any_fields (message_fields pool m)) ms o
