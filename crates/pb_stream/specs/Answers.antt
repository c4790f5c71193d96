-- What reading a frame answers: a message of the frame that the input begins with, or the one fault of what it begins with.
use Rattle.std.specs.Prelude.{◌≡◌, ℕ, List, Option, IfSome, IsSomeAnd, Result, MatchResult, IfOk, IfErr, IsErrAnd}
use Rattle.pb_wire.specs.Fault.{Fault}
use Rattle.pb_wire.specs.Limits.{Bounds}
use Rattle.pb_schema.specs.Types.{Types}
use Rattle.pb_value.specs.Data.{Message}
use Rattle.pb_decode.specs.declared.error.DecodeError.{DecodeError}
use Rattle.pb_decode.specs.FromDevice.{IfRefused, IsNoFault}
use Rattle.pb_stream.specs.Frame.{Frame, FrameFault}

-- the input began with a frame of the message that is answered, and the bytes after it are left
abbrev pub AnswersFrame : {A : Type 0} → (A → Message) → Types → ℕ → Bounds → Option (List ℕ) → Option (List ℕ) → Result (Option A) DecodeError → Type 0
AnswersFrame body pool m limits old new result =
    IfSome old (λ left. IfOk result (λ o. IfSome o (λ r. IsSomeAnd new (Frame pool m limits left (body r)))))

-- a fault that is reported is one of what the input began with
abbrev pub TellsFrameFault : {A : Type 0} → Types → ℕ → Bounds → Option (List ℕ) → Result (Option A) DecodeError → Type 0
TellsFrameFault pool m limits old result = IfErr result (λ e. IfRefused e (λ f. IfSome old (λ left. FrameFault pool m limits left f)))

-- of a frame of v, v is answered, but where memory or the input fails
abbrev pub AcceptsFrame : {A : Type 0} → (A → Message) → Types → ℕ → Bounds → Option (List ℕ) → Result (Option A) DecodeError → Type 0
AcceptsFrame body pool m limits old result =
    IfSome old (λ left. (v : Message) (rest : List ℕ) → Frame pool m limits left v rest → MatchResult result (λ o. IsSomeAnd o (λ r. body r ≡ v)) IsNoFault)

-- what begins with no frame is refused with its fault, but where memory or the input fails
abbrev pub RefusesFrameFault : {A : Type 0} → Types → ℕ → Bounds → Option (List ℕ) → Result (Option A) DecodeError → Type 0
RefusesFrameFault pool m limits old result =
    IfSome old (λ left. (f : Fault) → FrameFault pool m limits left f → IsErrAnd result (λ e. IfRefused e (λ g. g ≡ f)))
