-- What a decoder has received.
use Rattle.std.specs.Prelude.{◌≡◌, ◌⊎◌, ℕ, ◌+◌, ◌≤◌, List, [], length, Result, IsErrAnd, MatchResult}
use Rattle.pb_wire.specs.Fault.{Fault, text_at}
use Rattle.pb_wire.specs.Grammar.{HasFault}
use Rattle.pb_wire.specs.Exact.{IsSomeText, IsCut}
use Rattle.pb_wire.specs.Limits.{Bounds}
use Rattle.pb_schema.specs.Types.{Types}
use Rattle.pb_schema.specs.Context.{a_message, schema_of}
use Rattle.pb_value.specs.Data.{Message}
use Rattle.pb_value.specs.Dynamic.{Dynamic}
use Rattle.pb_decode.specs.declared.error.DecodeError.{DecodeError}
use Rattle.pb_decode.specs.declared.error.DecodeError.TheVariants.{Memory}
use Rattle.pb_decode.specs.Reader.{State, Reads, Stops, IfFault}

-- A reader has read the input b, but for the bytes that it holds, of which no more can be taken.
pub record Took (pool : Types) (m : ℕ) (limits : Bounds) (b : List ℕ) (s : State) (held : List ℕ) : Type 0 where
  pub reads : Reads pool m limits.depth 101 [] (text_at b) s held
  pub stops : Stops pool m limits.depth (text_at b) s held
  pub at : s.at + length held ≡ length b
  pub size : length b ≤ limits.bytes

-- some input is read
pub record TookSome (pool : Types) (m : ℕ) (limits : Bounds) (s : State) (held : List ℕ) : Type 0 where
  pub text : List ℕ
  pub took : Took pool m limits text s held

-- the bytes b, read as an input of the type within the limits, have this fault
abbrev pub IsFaultOf : Types → ℕ → Bounds → List ℕ → Fault → Type 0
IsFaultOf pool m limits b f = HasFault (schema_of pool) (a_message m) limits b f

-- the answer is a message of this value, or memory ran out
abbrev pub Gives : Result Dynamic DecodeError → Message → Type 0
Gives result v = MatchResult result (λ m. m.body ≡ v) (λ e. e ≡ Memory)

-- the answer is this fault, or memory ran out
abbrev pub Tells : {A : Type 0} → Result A DecodeError → Fault → Type 0
Tells result f = IsErrAnd result (λ e. IfFault e (λ g. g ≡ f))

-- a fault of b that no more bytes change
pub record IsSettled (pool : Types) (m : ℕ) (limits : Bounds) (b : List ℕ) (f : Fault) : Type 0 where
  pub fault : HasFault (schema_of pool) (a_message m) limits b f
  pub settled : IsCut f → ⊥

-- b is an encoding, or is cut short: more bytes may still make it one
abbrev pub IsGoing : Types → ℕ → Bounds → List ℕ → Type 0
IsGoing pool m limits b = IsSomeText (schema_of pool) (a_message m) limits b ⊎ ((f : Fault) × HasFault (schema_of pool) (a_message m) limits b f × IsCut f)
