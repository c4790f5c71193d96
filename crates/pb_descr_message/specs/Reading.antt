-- The declarations in a descriptor set's message (descriptor.proto).
use Rattle.std.specs.Prelude.{ℕ, zero, suc, ℤ, pos, negsuc, List, [], ◌∷◌, codes, length, map, Bool}
use Rattle.std.specs.Prelude.{◌==◌, ◌||◌, Option, None, unwrap_or, option_and_then, slice_get}
use Rattle.std.specs.Ordering.{int_eq, nat_cmp, match_ordering}
use Rattle.std.specs.Str.{bytes_eq}
use Rattle.pb_value.specs.Data.{Datum, scalar, message as one_message, Datums, no_datums, datum, Holding, one}
use Rattle.pb_value.specs.Data.{list, map as a_map, Fields, no_fields, field, Message, body, fields_of}
use Rattle.pb_declarations.specs.TypeNumbers.{type_of_number}
use Rattle.pb_declarations.specs.Decls.{DeclaredField, DeclaredEnum, MessageHead, DeclaredMessage, message, DeclaredMessages}
use Rattle.pb_declarations.specs.Decls.{no_messages, more_messages, DeclaredMethod, DeclaredService, DeclaredFile}
use Rattle.pb_descr_message.specs.Held.{fields_in, data_at, text_at, int_at, bool_at, inside_at, texts_at, ints_at, name_at, number_at, mark_at}

-- starts and ends
abbrev pub range_in : Datum → ℤ × ℤ
range_in d = (number_at 1 (fields_in d), number_at 2 (fields_in d))

-- a missing label is OPTIONAL
abbrev pub label_at : Fields → ℤ
label_at fs = unwrap_or (int_at 4 fs) (pos 1)

abbrev pub field_in : Datum → DeclaredField
field_in d =
    let fs : Fields = fields_in d in
    record {
      name = name_at 1 fs;
      number = number_at 3 fs;
      is_repeated = int_eq (label_at fs) (pos 3);
      type_code = option_and_then type_of_number (int_at 5 fs);
      type_name = text_at 6 fs;
      packed = bool_at 2 (inside_at 8 fs);
      oneof = int_at 9 fs;
      is_optional = mark_at 17 fs;
    }

abbrev pub value_in : Datum → List ℕ × ℤ
value_in d = (name_at 1 (fields_in d), number_at 2 (fields_in d))

abbrev pub enum_in : Datum → DeclaredEnum
enum_in d =
    let fs : Fields = fields_in d in
    record {
      name = name_at 1 fs;
      values = map value_in (data_at 2 fs);
      allows_alias = mark_at 2 (inside_at 3 fs);
      reserved = map range_in (data_at 4 fs);
      reserved_names = texts_at 5 fs;
    }

abbrev pub oneof_in : Datum → List ℕ
oneof_in d = name_at 1 (fields_in d)

abbrev pub head_in : Fields → MessageHead
head_in fs = record {
  name = name_at 1 fs;
  fields = map field_in (data_at 2 fs);
  enums = map enum_in (data_at 4 fs);
  oneofs = map oneof_in (data_at 8 fs);
  reserved = map range_in (data_at 9 fs);
  reserved_names = texts_at 10 fs;
  is_entry = mark_at 7 (inside_at 7 fs);
}

-- the messages in the field of a number are a part of the message, so these go down the message
abbrev mutual
  pub message_in : Datum → DeclaredMessage
  message_in (scalar x) = message (head_in no_fields) no_messages
  message_in (one_message m) = message_of_body m

  pub message_of_body : Message → DeclaredMessage
  message_of_body (body fs us) = message (head_in fs) (messages_at 3 fs)

  pub messages_at : ℕ → Fields → DeclaredMessages
  messages_at n no_fields = no_messages
  messages_at n (field k h fs) =
      let here : DeclaredMessages = messages_in h in
      let later : DeclaredMessages = messages_at n fs in
      match_ordering (nat_cmp n k) later here later

  pub messages_in : Holding → DeclaredMessages
  messages_in (one d) = no_messages
  messages_in (list ds) = messages_listed ds
  messages_in (a_map es) = no_messages

  pub messages_listed : Datums → DeclaredMessages
  messages_listed no_datums = no_messages
  messages_listed (datum d ds) = more_messages (message_in d) (messages_listed ds)

abbrev pub method_in : Datum → DeclaredMethod
method_in d =
    let fs : Fields = fields_in d in
    record { name = name_at 1 fs; input = name_at 2 fs; output = name_at 3 fs; client_streams = mark_at 5 fs; server_streams = mark_at 6 fs }

abbrev pub service_in : Datum → DeclaredService
service_in d = record { name = name_at 1 (fields_in d); methods = map method_in (data_at 2 (fields_in d)) }

-- a syntax that is missing or empty is `proto2`
abbrev pub is_proto2 : Fields → Bool
is_proto2 fs = (length (name_at 12 fs) == 0) || bytes_eq (codes "proto2") (name_at 12 fs)

-- the declaration in a file's message
abbrev pub file_in : Datum → DeclaredFile
file_in d =
    let fs : Fields = fields_in d in
    record {
      name = name_at 1 fs;
      package_name = name_at 2 fs;
      imports = texts_at 3 fs;
      public_indexes = ints_at 10 fs;
      messages = messages_at 4 fs;
      enums = map enum_in (data_at 5 fs);
      services = map service_in (data_at 6 fs);
      is_proto2 = is_proto2 fs;
    }

-- the files of a set
abbrev pub files_in : Message → List DeclaredFile
files_in m = map file_in (data_at 1 (fields_of m))
