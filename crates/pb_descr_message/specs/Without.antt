-- A set without what lenient reading leaves out: extensions and ranges of them, the labels of required fields, default values, and the marks
-- of the entries of maps of closed enums. All else stays.
use Rattle.std.specs.Prelude.{ℕ, pos, Bool, false, ◌&&◌, if◌then◌else◌, Option, Some, None, option_map}
use Rattle.std.specs.List.{list_any}
use Rattle.std.specs.Option.{option_map_or}
use Rattle.std.specs.Ordering.{int_eq, nat_cmp, match_ordering}
use Rattle.pb_value.specs.Data.{Datum, scalar, message, Datums, no_datums, datum, Holding, one, list, map as a_map}
use Rattle.pb_value.specs.Data.{Fields, no_fields, field, Message, body, get_field, put_some, drop_field}
use Rattle.pb_descr_message.specs.Held.{fields_in, data_at, int_at, inside_at, number_at, mark_at}
use Rattle.pb_descr_message.specs.Reading.{label_at, is_proto2}

-- A LIST IN A MESSAGE

abbrev pub each : (Datum → Datum) → Datums → Datums
each f no_datums = no_datums
each f (datum d ds) = datum (f d) (each f ds)

abbrev pub each_held : (Datum → Datum) → Holding → Holding
each_held f (one d) = one d
each_held f (list ds) = list (each f ds)
each_held f (a_map es) = a_map es

-- the fields, with each element of the list of a number changed
abbrev pub changed_at : ℕ → (Datum → Datum) → Fields → Fields
changed_at n f fs = put_some n (option_map (each_held f) (get_field n fs)) fs

-- a message with its fields changed
abbrev pub over : (Fields → Fields) → Datum → Datum
over f (scalar x) = scalar x
over f (message (body fs us)) = message (body (f fs) us)

-- FIELDS

abbrev pub is_required : Fields → Bool
is_required fs = int_eq (label_at fs) (pos 2)

-- without a label of `required`, which leaves the field optional, and without a default value
abbrev pub field_fields_without : Fields → Fields
field_fields_without fs = drop_field 7 (if is_required fs then drop_field 4 fs else fs)

abbrev pub field_without : Datum → Datum
field_without d = over field_fields_without d

-- MESSAGES

-- the value of an entry is an enum
abbrev pub is_enum_value : Datum → Bool
is_enum_value d = int_eq (number_at 3 (fields_in d)) (pos 2) && option_map_or (λ z. int_eq z (pos 14)) (int_at 5 (fields_in d)) false

-- the entry of a map whose values are of an enum, in a file that may be of proto2
abbrev pub is_closed_entry : Bool → Fields → Bool
is_closed_entry two fs = mark_at 7 (inside_at 7 fs) && (two && list_any is_enum_value (data_at 2 fs))

-- without ranges and extensions, without the options that hold the mark where it is a closed map's, and its fields without their parts
abbrev pub head_without : Bool → Fields → Fields
head_without closed fs = changed_at 2 field_without (drop_field 6 (drop_field 5 (if closed then drop_field 7 fs else fs)))

-- the messages in the field of a number are a part of the message, so these go down the message
abbrev mutual
  pub message_without : Bool → Datum → Datum
  message_without two (scalar x) = scalar x
  message_without two (message m) = message (body_without two m)

  pub body_without : Bool → Message → Message
  body_without two (body fs us) = body (head_without (is_closed_entry two fs) (put_some 3 (inner_without two 3 fs) fs)) us

  -- the messages that the field of a number holds
  pub inner_without : Bool → ℕ → Fields → Option Holding
  inner_without two n no_fields = None
  inner_without two n (field k h fs) =
      let here : Holding = holding_without two h in
      let later : Option Holding = inner_without two n fs in
      match_ordering (nat_cmp n k) later (Some here) later

  pub holding_without : Bool → Holding → Holding
  holding_without two (one d) = one d
  holding_without two (list ds) = list (messages_without two ds)
  holding_without two (a_map es) = a_map es

  pub messages_without : Bool → Datums → Datums
  messages_without two no_datums = no_datums
  messages_without two (datum d ds) = datum (message_without two d) (messages_without two ds)

-- FILES AND SETS

abbrev pub file_fields_without : Fields → Fields
file_fields_without fs = drop_field 7 (put_some 4 (inner_without (is_proto2 fs) 4 fs) fs)

abbrev pub file_without : Datum → Datum
file_without d = over file_fields_without d

abbrev pub without_parts : Message → Message
without_parts (body fs us) = body (changed_at 1 file_without fs) us
