-- The names of causes, by their numbers: those of bytes, of changes, of sources, of sets, of linking, of JSON that is written or read, and of what is too
-- large to be written.
use Rattle.std.specs.Prelude.{◌≡◌, ℕ, List, codes}
use Rattle.pb_wire.specs.CauseName.{number_of as wire_number, name_of as wire_name}
use Rattle.pb_wire.specs.declared.fault.Cause.{Cause}
use Rattle.pb_value.specs.ErrorName.{number_of as value_number, name_of as value_name}
use Rattle.pb_value.specs.declared.error.ValueError.{ValueError}
use Rattle.pb_source_tokens.specs.CauseName.{number_of as source_number, name_of as source_name}
use Rattle.pb_source_tokens.specs.declared.fault.SourceCause.{SourceCause}
use Rattle.pb_descr_message.specs.CauseName.{number_of as set_number, name_of as set_name}
use Rattle.pb_descr_message.specs.declared.cause.DeclCause.{DeclCause}
use Rattle.pb_link_rules.specs.CauseName.{cause_number as link_number, cause_name as link_name}
use Rattle.pb_link_rules.specs.declared.cause.LinkCause.{LinkCause}
use Rattle.pb_json.specs.CauseName.{name_of as json_name}
use Rattle.pb_json.specs.declared.error.JsonCause.{JsonCause}
use Rattle.pb_json_read.specs.Faults.{name_of as read_name}
use Rattle.pb_json_read.specs.declared.error.JsonReadCause.{JsonReadCause}
use Rattle.pb_c_answers.specs.Json.Numbers.{json_number, read_number}

-- A cause that has this number has this name.
pub data Names (n : ℕ) (s : List ℕ) : Type 0 where
  of_bytes : (c : Cause) → wire_number c ≡ n → s ≡ wire_name c → Names n s
  of_change : (c : ValueError) → value_number c ≡ n → s ≡ value_name c → Names n s
  of_source : (c : SourceCause) → source_number c ≡ n → s ≡ source_name c → Names n s
  of_set : (c : DeclCause) → set_number c ≡ n → s ≡ set_name c → Names n s
  of_link : (c : LinkCause) → link_number c ≡ n → s ≡ link_name c → Names n s
  of_json : (c : JsonCause) → json_number c ≡ n → s ≡ json_name c → Names n s
  of_reading : (c : JsonReadCause) → read_number c ≡ n → s ≡ read_name c → Names n s
  of_output : n ≡ 31 → s ≡ codes "TooLarge" → Names n s
