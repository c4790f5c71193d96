-- What a reader takes from an input, and what an answer says of its failures.
use Rattle.std.specs.Prelude.{◌≡◌, ◌≢◌, ℕ, ◌≤◌, List, length, Option, Result, Ok, Err, IsErrAnd, MatchResult}
use Rattle.std.specs.Io.KnownBytes.{Consumes}
use Rattle.pb_wire.specs.Fault.{Fault, fault}
use Rattle.pb_value.specs.Data.{Message}
use Rattle.pb_value.specs.Dynamic.{Dynamic}
use Rattle.pb_decode.specs.declared.error.DecodeError.{DecodeError}
use Rattle.pb_decode.specs.declared.error.DecodeError.TheVariants as error

-- the error reports a fault of which this holds; or memory ran out, or the input failed
abbrev pub IfRefused : DecodeError → (Fault → Type 0) → Type 0
IfRefused (error.Fault byte path cause) P = P (fault byte path.items cause)
IfRefused error.Memory P = Unit {0}
IfRefused error.Device P = Unit {0}
IfRefused error.Finished P = ⊥

-- memory ran out, or the input failed
abbrev pub IsNoFault : DecodeError → Type 0
IsNoFault (error.Fault byte path cause) = ⊥
IsNoFault error.Memory = Unit {0}
IsNoFault error.Device = Unit {0}
IsNoFault error.Finished = ⊥

-- the answer is a message of this value, or memory ran out, or the input failed
abbrev pub GivesOrFails : Result Dynamic DecodeError → Message → Type 0
GivesOrFails result v = MatchResult result (λ m. m.body ≡ v) IsNoFault

-- the answer is this fault, or memory ran out, or the input failed
abbrev pub TellsOrFails : {A : Type 0} → Result A DecodeError → Fault → Type 0
TellsOrFails result f = IsErrAnd result (λ e. IfRefused e (λ g. g ≡ f))

-- the input's count of failures changed where the answer says that it failed, and nowhere else
abbrev pub TellsFailures : {A : Type 0} → Result A DecodeError → ℕ → ℕ → Type 0
TellsFailures (Ok a) before after = after ≡ before
TellsFailures (Err (error.Fault byte path cause)) before after = after ≡ before
TellsFailures (Err error.Memory) before after = after ≡ before
TellsFailures (Err error.Device) before after = after ≢ before
TellsFailures (Err error.Finished) before after = after ≡ before

-- at most this many bytes were taken of those that were left
abbrev pub TakesAtMost : ℕ → Option (List ℕ) → Option (List ℕ) → Type 0
TakesAtMost most old new = (bytes : List ℕ) × (length bytes ≤ most) × Consumes old new bytes
