-- Messages in a stream: the length of each comes before it, as a varint ("Streaming Multiple Messages" of the techniques of Protocol Buffers).
use Rattle.std.specs.Prelude.{◌≡◌, ◌≢◌, ◌<◌, ◌≤◌, ℕ, List, [], ◌++◌, length}
use Rattle.pb_wire.specs.Varint.{IsVarint}
use Rattle.pb_wire.specs.Fault.{Fault, fault, Place, text_at, Reads, VarintFault}
use Rattle.pb_wire.specs.Schema.{records}
use Rattle.pb_wire.specs.Grammar.{Bad, payload_at}
use Rattle.pb_wire.specs.Limits.{Bounds}
use Rattle.pb_wire.specs.declared.fault.Cause.TheVariants.{LengthTooLarge}
use Rattle.pb_schema.specs.Types.{Types}
use Rattle.pb_schema.specs.Context.{a_message, schema_of}
use Rattle.pb_value.specs.Data.{Message}
use Rattle.pb_value.specs.Derives.{Text}

-- the input begins with a frame of v, and then comes the rest
pub record Frame (pool : Types) (m : ℕ) (limits : Bounds) (input : List ℕ) (v : Message) (rest : List ℕ) : Type 0 where
  pub front : List ℕ
  pub text : List ℕ
  pub joined : input ≡ front ++ text ++ rest
  pub counted : IsVarint (length text) front
  pub derives : Text pool m limits text v

-- The input has a byte, and what it begins with is no frame. Places count from the first byte of the length.
pub data FrameFault (pool : Types) (m : ℕ) (limits : Bounds) (input : List ℕ) (f : Fault) : Type 0 where
  no_length : input ≢ [] → VarintFault (text_at input) f → FrameFault pool m limits input f
  too_large : {n : ℕ} {q : Place} → Reads (text_at input) n q → limits.bytes < n → f ≡ fault 0 [] LengthTooLarge → FrameFault pool m limits input f
  in_text :
      {n : ℕ} {q : Place} → Reads (text_at input) n q → n ≤ limits.bytes → Bad (schema_of pool) (records (a_message m)) limits.depth (payload_at q n) f
      → FrameFault pool m limits input f

-- the input begins with a frame of some message
abbrev pub BeginsWithFrame : Types → ℕ → Bounds → List ℕ → Type 0
BeginsWithFrame pool m limits input = (v : Message) × (rest : List ℕ) × Frame pool m limits input v rest
