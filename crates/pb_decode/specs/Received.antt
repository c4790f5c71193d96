-- What a push decoder has received, and what that is by its type and limits.
use Rattle.std.specs.Prelude.{ℕ, List, IsSomeAnd}
use Rattle.pb_wire.specs.Fault.{Fault}
use Rattle.pb_schema.specs.Context.{a_message, schema_of}
use Rattle.pb_value.specs.Data.{Message}
use Rattle.pb_value.specs.Derives.{Text}
use Rattle.pb_decode.specs.Push.{Took, IsFaultOf, IsSettled, IsGoing}
use Rattle.pb_decode.specs.Pending.{IsPending, HasOpen, IsDeclared}
use Rattle.pb_decode.specs.Decoder.{Decoder, state_of}

-- the decoder goes on, and these are the bytes that it has received
abbrev pub After : Decoder → List ℕ → Type 0
After d b = IsSomeAnd d.reading (λ r. Took d.pool d.kind d.limits b (state_of r) r.held)

-- b is an encoding of v
abbrev pub IsTextFor : Decoder → List ℕ → Message → Type 0
IsTextFor d b v = Text d.pool d.kind d.limits b v

-- b has this fault
abbrev pub IsFaultFor : Decoder → List ℕ → Fault → Type 0
IsFaultFor d b f = IsFaultOf d.pool d.kind d.limits b f

-- and no more bytes change it
abbrev pub IsSettledFor : Decoder → List ℕ → Fault → Type 0
IsSettledFor d b f = IsSettled d.pool d.kind d.limits b f

-- b is an encoding or is cut short
abbrev pub IsGoingFor : Decoder → List ℕ → Type 0
IsGoingFor d b = IsGoing d.pool d.kind d.limits b

-- this many bytes of the open token or payload are given, this many things are open, and this many bytes are declared for the open payload
abbrev pub IsPendingFor : Decoder → List ℕ → ℕ → Type 0
IsPendingFor d b n = IsPending (schema_of d.pool) (a_message d.kind) d.limits.depth b n

abbrev pub IsOpenFor : Decoder → List ℕ → ℕ → Type 0
IsOpenFor d b n = HasOpen (schema_of d.pool) (a_message d.kind) d.limits.depth b n

abbrev pub IsDeclaredFor : Decoder → List ℕ → ℕ → Type 0
IsDeclaredFor d b n = IsDeclared (schema_of d.pool) (a_message d.kind) d.limits.depth b n
