-- What is answered to a request of the conformance suite. The fields are those of conformance.proto.
use Rattle.std.specs.Prelude.{◌≡◌, ◌<◌, ◌≤◌, ◌^◌, ℕ, pos, List, [], codes, length, None, Some}
use Rattle.pb_wire.specs.Fault.{Fault}
use Rattle.pb_wire.specs.Grammar.{HasFault}
use Rattle.pb_wire.specs.Limits.{full}
use Rattle.pb_schema.specs.Context.{a_message, schema_of}
use Rattle.pb_schema.specs.Names.{message_names}
use Rattle.pb_schema.specs.Scalar.{bytes, enum, text}
use Rattle.pb_schema.specs.Tables.{place_of}
use Rattle.pb_schema.specs.Types.{Types}
use Rattle.pb_value.specs.Canon.{canon_bytes}
use Rattle.pb_value.specs.Data.{Datum, scalar, Message, body, field, fields_of, get_field, no_fields, one}
use Rattle.pb_value.specs.Derives.{Text}
use Rattle.pb_value.specs.View.{value_view}
use Rattle.conformance.specs.FaultText.{fault_text}
use Rattle.conformance.specs.declared.reply.Reply.{Reply}

-- RESPONSES

-- a response with one field
abbrev pub response : ℕ → Datum → Message
response number value = body (field number (one value) no_fields) []

abbrev pub parse_error : Fault → Message
parse_error f = response 1 (scalar (text (fault_text f)))

abbrev pub runtime_error : Fault → Message
runtime_error f = response 2 (scalar (text (fault_text f)))

abbrev pub payload : List ℕ → Message
payload out = response 3 (scalar (bytes out))

abbrev pub skipped : Message
skipped = response 5 (scalar (text (codes "only messages of the set are tested, in binary form")))

-- a serialization error
abbrev pub too_large : Message
too_large = response 6 (scalar (text (codes "there are more than 2147483647 bytes")))

-- the response that a reply is
abbrev pub message_of : Reply → Message
message_of r = response r.field (value_view r.value)

-- REQUESTS

-- the request gives these bytes in binary form, of a type of this name, and wants the binary form again
pub record Asks (request : Message) (name given : List ℕ) : Type 0 where
  pub form : get_field 3 (fields_of request) ≡ Some (one (scalar (enum (pos 1))))
  pub named : get_field 4 (fields_of request) ≡ Some (one (scalar (text name)))
  pub gives : get_field 1 (fields_of request) ≡ Some (one (scalar (bytes given)))

-- what is answered to a value: its canonical bytes, or that these are too many
pub data IsWritten (bytes : List ℕ) (answer : Message) : Type 0 where
  fits : length bytes < 2 ^ 31 → answer ≡ payload bytes → IsWritten bytes answer
  does_not_fit : 2 ^ 31 ≤ length bytes → answer ≡ too_large → IsWritten bytes answer

-- what is answered to bytes by a type: what is answered to their value, or the fault that they have
pub data IsTestOf (pool : Types) (m : ℕ) (given : List ℕ) (answer : Message) : Type 0 where
  parses : {v : Message} → Text pool m full given v → IsWritten (canon_bytes pool m v) answer → IsTestOf pool m given answer
  refused : {f : Fault} → HasFault (schema_of pool) (a_message m) full given f → answer ≡ parse_error f → IsTestOf pool m given answer

-- what is answered to a request
pub data IsReplyTo (pool : Types) (request answer : Message) : Type 0 where
  tested :
      {name given : List ℕ} {m : ℕ} → Asks request name given → place_of name (message_names pool) ≡ Some m → IsTestOf pool m given answer
      → IsReplyTo pool request answer
  untested :
      ((name given : List ℕ) → Asks request name given → place_of name (message_names pool) ≡ None) → answer ≡ skipped → IsReplyTo pool request answer

-- what is answered to bytes that should be a request of this type
pub data IsReply (pool : Types) (m : ℕ) (given : List ℕ) (answer : Message) : Type 0 where
  read : {request : Message} → Text pool m full given request → IsReplyTo pool request answer → IsReply pool m given answer
  unread : {f : Fault} → HasFault (schema_of pool) (a_message m) full given f → answer ≡ runtime_error f → IsReply pool m given answer

-- the bytes of a response, or where these are too many, those of one that says so
pub data IsAnswer (pool : Types) (request response : ℕ) (given out : List ℕ) : Type 0 where
  whole :
      {answer : Message} → IsReply pool request given answer → length out < 2 ^ 31 → out ≡ canon_bytes pool response answer
      → IsAnswer pool request response given out
  shortened :
      {answer : Message} → IsReply pool request given answer → 2 ^ 31 ≤ length (canon_bytes pool response answer)
      → out ≡ canon_bytes pool response too_large → IsAnswer pool request response given out
