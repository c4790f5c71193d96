-- Faults by their parts, and the names of causes.
use Rattle.std.specs.Prelude.{ℕ, List, ◌++◌, codes, decimal}
use Rattle.pb_json.specs.declared.error.JsonCause as form_cause
use Rattle.pb_json.specs.declared.error.JsonCause.TheVariants as without_form
use Rattle.pb_json.specs.declared.error.JsonError.{JsonError}
use Rattle.pb_json.specs.declared.error.JsonError.TheVariants as unwritten
use Rattle.pb_json_text.specs.declared.fault.JsonCause.{JsonCause}
use Rattle.pb_json_text.specs.declared.fault.JsonCause.TheVariants as text_cause
use Rattle.pb_json_text.specs.declared.fault.JsonFault.{JsonFault}
use Rattle.pb_json_read.specs.declared.error.JsonReadCause.{JsonReadCause}
use Rattle.pb_json_read.specs.declared.error.JsonReadCause.TheVariants.{UnexpectedByte, UnexpectedEnd, BadUtf8, TooDeep, UnknownName, RepeatedName, SecondMember, BadKey, BadValue, OutOfMemory}
use Rattle.pb_json_read.specs.declared.error.JsonReadError.{JsonReadError}

abbrev pub fault : ℕ → JsonReadCause → JsonReadError
fault n c = record { byte = n; cause = c }

abbrev pub out_of_memory : JsonReadError
out_of_memory = fault 0 OutOfMemory

-- bytes that are no JSON text
abbrev pub cause_of : JsonCause → JsonReadCause
cause_of text_cause.UnexpectedByte = UnexpectedByte
cause_of text_cause.UnexpectedEnd = UnexpectedEnd
cause_of text_cause.BadUtf8 = BadUtf8
cause_of text_cause.TooDeep = TooDeep
cause_of text_cause.OutOfMemory = OutOfMemory

abbrev pub fault_of : JsonFault → JsonReadError
fault_of f = fault f.byte (cause_of f.cause)

-- a message without a JSON form: its messages in Any are too deep inside each other, or it has a value that its form hasn't
abbrev pub cause_of_form : form_cause.JsonCause → JsonReadCause
cause_of_form without_form.Unsupported = TooDeep
cause_of_form without_form.NoKind = BadValue
cause_of_form without_form.NotFinite = BadValue
cause_of_form without_form.OutOfRange = BadValue
cause_of_form without_form.BadPath = BadValue

-- the fault of a message that begins at this byte, by why it is not written
abbrev pub fault_of_form : ℕ → JsonError → JsonReadError
fault_of_form at (unwritten.Refused x) = fault at (cause_of_form x.cause)
fault_of_form at unwritten.Memory = out_of_memory
fault_of_form at unwritten.Output = out_of_memory

abbrev pub name_of : JsonReadCause → List ℕ
name_of UnexpectedByte = codes "UnexpectedByte"
name_of UnexpectedEnd = codes "UnexpectedEnd"
name_of BadUtf8 = codes "BadUtf8"
name_of TooDeep = codes "TooDeep"
name_of UnknownName = codes "UnknownName"
name_of RepeatedName = codes "RepeatedName"
name_of SecondMember = codes "SecondMember"
name_of BadKey = codes "BadKey"
name_of BadValue = codes "BadValue"
name_of OutOfMemory = codes "OutOfMemory"

-- the byte and the cause
abbrev pub error_text : JsonReadError → List ℕ
error_text e = codes "byte " ++ decimal e.byte ++ codes ": " ++ name_of e.cause
