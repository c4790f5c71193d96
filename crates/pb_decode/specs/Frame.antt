-- A message in this many bytes of an input.
use Rattle.std.specs.Prelude.{ℕ, ◌+◌, ◌≤◌, List, length, take}
use Rattle.pb_wire.specs.Fault.{Fault}
use Rattle.pb_wire.specs.Limits.{Bounds}
use Rattle.pb_wire.specs.Schema.{records}
use Rattle.pb_wire.specs.Grammar.{Bad}
use Rattle.pb_wire.specs.Exact.{ending_at}
use Rattle.pb_schema.specs.Types.{Types}
use Rattle.pb_schema.specs.Context.{a_message, schema_of}
use Rattle.pb_value.specs.Data.{Message}
use Rattle.pb_value.specs.Derives.{Text}
use Rattle.pb_decode.specs.declared.error.DecodeError.{DecodeError}
use Rattle.pb_decode.specs.declared.error.DecodeError.TheVariants as error

-- this many bytes are left at least, and the first of them are an encoding of v
pub record IsFrameOf (pool : Types) (m : ℕ) (limits : Bounds) (size : ℕ) (left : List ℕ) (v : Message) : Type 0 where
  pub given : size ≤ length left
  pub text : Text pool m limits (take size left) v

-- the message that begins at `start`, and has this many bytes before its known end, has this fault
abbrev pub BadFrame : Types → ℕ → ℕ → ℕ → ℕ → List ℕ → Fault → Type 0
BadFrame pool m depth start size left f = Bad (schema_of pool) (records (a_message m)) depth (ending_at start size left) f

-- the same error, its byte counted from so far before
abbrev pub error_later : ℕ → DecodeError → DecodeError
error_later start (error.Fault byte path cause) = error.Fault (byte + start) path cause
error_later start error.Memory = error.Memory
error_later start error.Device = error.Device
error_later start error.Finished = error.Finished
