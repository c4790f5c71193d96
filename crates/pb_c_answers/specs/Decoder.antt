-- What calls answer of a decoder that receives an encoding piece by piece.
use Rattle.std.specs.Prelude.{◌≡◌, ◌⊎◌, ◌≤◌, ℕ, List, [], ◌++◌, max, Option, None, option_map, IsSomeAnd}
use Rattle.pb_wire.specs.Fault.{Fault, fault}
use Rattle.pb_wire.specs.Limits.{Bounds}
use Rattle.pb_schema.specs.Types.{Types}
use Rattle.pb_value.specs.Dynamic.{Dynamic}
use Rattle.pb_decode.specs.Decoder.{Decoder}
use Rattle.pb_decode.specs.declared.error.DecodeError.{DecodeError}
use Rattle.pb_decode.specs.declared.error.DecodeError.TheVariants as error
use Rattle.pb_decode.specs.Received.{After, IsTextFor, IsFaultFor, IsSettledFor, IsGoingFor, IsPendingFor, IsDeclaredFor}

-- a decoder of this pool, type and limits that has received no byte
pub record IsBegun (pool : Types) (m : ℕ) (limits : Bounds) (d : Decoder) : Type 0 where
  pub of_pool : d.pool ≡ pool
  pub of_type : d.kind ≡ m
  pub within : d.limits ≡ limits
  pub empty : After d []

-- of a decoder that a handle holds: it goes on, and these are the bytes that it has received
abbrev pub HasReceived : Option Decoder → List ℕ → Type 0
HasReceived held b = IsSomeAnd held (λ d. After d b)

-- it gave its message or its fault, or lost what it had to lack of memory
abbrev pub IsFinished : Option Decoder → Type 0
IsFinished held = IsSomeAnd held (λ d. d.reading ≡ None)

-- what stays of it: its pool, type and limits
abbrev pub emptied : Decoder → Decoder
emptied d = record d { reading = None }

abbrev pub frame_of : Option Decoder → Option Decoder
frame_of held = option_map emptied held

-- by these, the bytes are an encoding or are cut short
abbrev pub GoesOn : Option Decoder → List ℕ → Type 0
GoesOn held b = IsSomeAnd held (λ d. IsGoingFor d b)

-- the bytes have this fault, and no more bytes change it
abbrev pub HasSettled : Option Decoder → List ℕ → Fault → Type 0
HasSettled held b f = IsSomeAnd held (λ d. IsSettledFor d b f)

-- the bytes have this fault
abbrev pub HasFault : Option Decoder → List ℕ → Fault → Type 0
HasFault held b f = IsSomeAnd held (λ d. IsFaultFor d b f)

-- the bytes are an encoding of this message
abbrev pub IsEncoding : Option Decoder → List ℕ → Dynamic → Type 0
IsEncoding held b m = IsSomeAnd held (λ d. (m.pool ≡ d.pool) × (m.kind ≡ d.kind) × IsTextFor d b m.body)

-- The decoder received a piece, or refused it, for the reason that is answered. And a piece is received where the bytes go on, and each fault that is settled
-- is reported, unless memory runs out.
pub record IsFed (old new : Option Decoder) (piece : List ℕ) (answer : ℕ) (Reported : Fault → Type 0) : Type 0 where
  pub received : answer ≡ 0 → (b : List ℕ) → HasReceived old b → HasReceived new (b ++ piece)
  pub goes_on : answer ≡ 0 → (b : List ℕ) → HasReceived old b → GoesOn old (b ++ piece)
  pub fault : answer ≡ 13 → (b : List ℕ) → HasReceived old b → (f : Fault) × HasSettled old (b ++ piece) f × Reported f
  pub going : (b : List ℕ) → HasReceived old b → GoesOn old (b ++ piece) → (answer ≡ 0) ⊎ (answer ≡ 14)
  pub refused : (b : List ℕ) (f : Fault) → HasReceived old b → HasSettled old (b ++ piece) f → ((answer ≡ 13) × Reported f) ⊎ (answer ≡ 14)
  pub closes : (answer ≡ 13) ⊎ (answer ≡ 14) ⊎ (answer ≡ 43) → IsFinished new
  pub finished : IsFinished old → answer ≡ 43
  pub unfinished : answer ≡ 43 → IsFinished old
  pub same : frame_of new ≡ frame_of old

-- The decoder gave the message of all bytes that it received, or their fault. And each message is given and each fault is reported, unless memory runs out.
pub record IsEnded (old new : Option Decoder) (answer : ℕ) (Given : Dynamic → Type 0) (Reported : Fault → Type 0) : Type 0 where
  pub value : answer ≡ 0 → (b : List ℕ) → HasReceived old b → (m : Dynamic) × IsEncoding old b m × Given m
  pub fault : answer ≡ 13 → (b : List ℕ) → HasReceived old b → (f : Fault) × HasFault old b f × Reported f
  pub accepted : (b : List ℕ) (m : Dynamic) → HasReceived old b → IsEncoding old b m → ((answer ≡ 0) × Given m) ⊎ (answer ≡ 14)
  pub refused : (b : List ℕ) (f : Fault) → HasReceived old b → HasFault old b f → ((answer ≡ 13) × Reported f) ⊎ (answer ≡ 14)
  pub closes : (old ≡ None) ⊎ IsFinished new
  pub finished : IsFinished old → answer ≡ 43
  pub unfinished : answer ≡ 43 → IsFinished old
  pub same : frame_of new ≡ frame_of old

-- one fact of an error with a fault, another where the decoder is finished, and a third of an error without a fault
abbrev pub ByError : DecodeError → (Fault → Type 0) → Type 0 → Type 0 → Type 0
ByError (error.Fault byte path cause) P Q R = P (fault byte path.items cause)
ByError error.Memory P Q R = Q
ByError error.Device P Q R = Q
ByError error.Finished P Q R = R

-- This many bytes are held: those that are given of an open token, or of an open payload of a string, of bytes or of an unknown record. They are at most
-- ten, or the length that is declared for that payload.
pub record IsCounted (held : Option Decoder) (size : ℕ) : Type 0 where
  pub pending : (b : List ℕ) → HasReceived held b → IsSomeAnd held (λ d. IsPendingFor d b size)
  pub one : (b : List ℕ) (n : ℕ) → HasReceived held b → IsSomeAnd held (λ d. IsPendingFor d b n) → n ≡ size
  pub bound : (b : List ℕ) → HasReceived held b → IsSomeAnd held (λ d. (n : ℕ) × IsDeclaredFor d b n × (size ≤ max 10 n))
  pub finished : IsFinished held → size ≡ 0
