-- Why files of a set are not read: every cause that a set shows, in the order in which they are reported, which is by file, then by declaration,
-- then by number. A file comes before what it declares; a message before its fields, these before its oneofs, its nested messages and its enums;
-- enums come after messages and services after enums, and each before its values or methods.
use Rattle.std.specs.Prelude.{◌≡◌, ℕ, ℤ, pos, ◌+◌, List, [], ◌∷◌, ◌++◌, codes, length, map, flat_map, Bool, true, false, not}
use Rattle.std.specs.Prelude.{◌==◌, ◌&&◌, ◌||◌, Option, Some, None, is_some, is_none, slice_get, Result, MatchResult}
use Rattle.std.specs.Option.{option_map_or}
use Rattle.std.specs.Ordering.{int_eq, nat_cmp, match_ordering}
use Rattle.std.specs.Str.{bytes_eq}
use Rattle.pb_value.specs.Data.{Datum, scalar, message, Datums, no_datums, datum, Holding, one, list}
use Rattle.pb_value.specs.Data.{map as a_map, Fields, no_fields, field, Message, body, fields_of}
use Rattle.pb_descr_message.specs.declared.cause.DeclCause.{DeclCause}
use Rattle.pb_descr_message.specs.declared.cause.DeclCause.TheVariants as cause
use Rattle.pb_descr_message.specs.Held.{fields_in, data_at, text_at, int_at, name_at}
use Rattle.pb_declarations.specs.TypeNumbers.{type_of_number}
use Rattle.pb_descr_message.specs.Reading.{label_at, is_proto2}

abbrev pub when : Bool → DeclCause → List DeclCause
when true c = c ∷ []
when false c = []

abbrev pub is_nameless : Fields → Bool
is_nameless fs = length (name_at 1 fs) == 0

abbrev pub name_causes : Fields → List DeclCause
name_causes fs = when (is_nameless fs) cause.MissingName

abbrev pub is_label : ℤ → Bool
is_label z = int_eq z (pos 1) || int_eq z (pos 2) || int_eq z (pos 3)

-- a type outside 1 to 18, or neither type nor type name
abbrev pub has_bad_type : Option ℤ → Option (List ℕ) → Bool
has_bad_type (Some z) name = is_none (type_of_number z)
has_bad_type None name = is_none name

abbrev pub is_group : Option ℤ → Bool
is_group code = option_map_or (λ z. int_eq z (pos 10)) code false

abbrev pub type_causes : Fields → List DeclCause
type_causes fs = when (not (is_label (label_at fs))) cause.BadLabel ++ when (has_bad_type (int_at 5 fs) (text_at 6 fs)) cause.BadTypeNumber

-- what only proto2 has; of these, groups are read in files of proto2
abbrev pub proto2_causes : Bool → Fields → List DeclCause
proto2_causes two fs =
    when (is_some (text_at 2 fs)) cause.Extension ++ when (int_eq (label_at fs) (pos 2)) cause.Required ++ when (not two && is_group (int_at 5 fs)) cause.Group
    ++ when (is_some (text_at 7 fs)) cause.DefaultValue

-- of a field in a file, whose syntax may be `proto2`
abbrev pub field_causes : Bool → Datum → List DeclCause
field_causes two d = name_causes (fields_in d) ++ type_causes (fields_in d) ++ proto2_causes two (fields_in d)

-- of a oneof, a value or a method
abbrev pub named_causes : Datum → List DeclCause
named_causes d = name_causes (fields_in d)

-- of an enum and its values, or a service and its methods
abbrev pub listed_causes : Datum → List DeclCause
listed_causes d = named_causes d ++ flat_map named_causes (data_at 2 (fields_in d))

-- a field has an element
abbrev pub has_any : ℕ → Fields → Bool
has_any n fs = not (length (data_at n fs) == 0)

-- of a message itself, its fields and its oneofs
abbrev pub head_causes : Bool → Fields → List DeclCause
head_causes two fs =
    name_causes fs
    ++ when (has_any 5 fs || has_any 6 fs) cause.Extension
    ++ flat_map (field_causes two) (data_at 2 fs)
    ++ flat_map named_causes (data_at 8 fs)

abbrev mutual
  pub message_causes : Bool → Datum → List DeclCause
  message_causes two (scalar x) = head_causes two no_fields
  message_causes two (message m) = message_body_causes two m

  pub message_body_causes : Bool → Message → List DeclCause
  message_body_causes two (body fs us) = head_causes two fs ++ messages_at_causes two 3 fs ++ flat_map listed_causes (data_at 4 fs)

  -- of the messages that the field of a number holds
  pub messages_at_causes : Bool → ℕ → Fields → List DeclCause
  messages_at_causes two n no_fields = []
  messages_at_causes two n (field k h fs) =
      let here : List DeclCause = messages_causes two h in
      let later : List DeclCause = messages_at_causes two n fs in
      match_ordering (nat_cmp n k) later here later

  pub messages_causes : Bool → Holding → List DeclCause
  messages_causes two (one d) = []
  messages_causes two (list ds) = messages_listed_causes two ds
  messages_causes two (a_map es) = []

  pub messages_listed_causes : Bool → Datums → List DeclCause
  messages_listed_causes two no_datums = []
  messages_listed_causes two (datum d ds) = message_causes two d ++ messages_listed_causes two ds

-- the syntax is `proto3`
abbrev pub is_proto3 : Fields → Bool
is_proto3 fs = option_map_or (bytes_eq (codes "proto3")) (text_at 12 fs) false

abbrev pub has_known_syntax : Fields → Bool
has_known_syntax fs = is_proto2 fs || is_proto3 fs

-- of a file itself
abbrev pub file_head_causes : Fields → List DeclCause
file_head_causes fs = name_causes fs ++ when (has_any 7 fs) cause.Extension ++ when (not (has_known_syntax fs)) cause.NotProto3

abbrev pub file_causes : Datum → List DeclCause
file_causes d =
    let fs : Fields = fields_in d in
    file_head_causes fs ++ messages_at_causes (is_proto2 fs) 4 fs ++ flat_map listed_causes (data_at 5 fs) ++ flat_map listed_causes (data_at 6 fs)

-- of some files, with the index of each, from one on
abbrev pub causes_from : ℕ → List Datum → List (ℕ × DeclCause)
causes_from i [] = []
causes_from i (d ∷ ds) = map (λ c. (i, c)) (file_causes d) ++ causes_from (i + 1) ds

abbrev pub set_causes : Message → List (ℕ × DeclCause)
set_causes m = causes_from 0 (data_at 1 (fields_of m))

-- an answer gives the first cause, or says that there is none
abbrev pub Judges : {T : Type 0} → Result T DeclCause → List DeclCause → Type 0
Judges r cs = MatchResult r (λ _. cs ≡ []) (λ c. slice_get cs 0 ≡ Some c)
