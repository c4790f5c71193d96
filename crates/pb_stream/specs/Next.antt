-- What a stream has next.
use Rattle.std.specs.Prelude.{◌≡◌, ◌+◌, ◌^◌, ◌-◌, ◌<◌, ◌≤◌, ◌++◌, ⊤, ℕ, min, List, [], length, Option, Some, IfSome}
use Rattle.pb_wire.specs.Fault.{Fault, fault}
use Rattle.pb_wire.specs.Limits.{Bounds}
use Rattle.pb_schema.specs.Types.{Types}
use Rattle.pb_decode.specs.Frame.{BadFrame, IsFrameOf}
use Rattle.pb_stream.specs.Frame.{Frame, FrameFault}
use Rattle.pb_stream.specs.Taking.{TakesNone}
use Rattle.pb_stream.specs.Spans.{HasNoSpan, IsSpan}
use Rattle.pb_stream.specs.declared.next.NextFrame.{NextFrame}
use Rattle.pb_stream.specs.declared.next.NextFrame.TheVariants.{End, Message, Refused, Cut}
use Rattle.pb_stream.specs.declared.next.Reason.{Reason}

-- how many bytes there are, up to the greatest u64
abbrev pub bounded_size : List ℕ → ℕ
bounded_size bytes = min (length bytes) (2 ^ 64 - 1)

abbrev pub fault_of : Reason → Fault
fault_of r = fault r.byte r.path.items r.cause

-- the bytes of a frame were taken, this number of them, and of them this holds
pub record TakesSpan (input : List ℕ) (left : Option (List ℕ)) (size : ℕ) (Holds : List ℕ → Type 0) : Type 0 where
  pub span : List ℕ
  pub rest : List ℕ
  pub joined : input ≡ span ++ rest
  pub is_span : IsSpan span
  pub after : left ≡ Some rest
  pub size_is : size ≡ bounded_size span
  pub holds : Holds span

module _ (pool : Types) (m : ℕ) (limits : Bounds) where
  -- of an input that had these bytes and has those left: nothing is there; or a frame of a message; or all bytes of a frame, which have this fault;
  -- or no bytes of a frame, and the input has this fault
  abbrev pub IsNext : Option (List ℕ) → Option (List ℕ) → NextFrame → Type 0
  IsNext old new End = TakesNone old new
  IsNext old new (Message message size) = IfSome old (λ input. TakesSpan input new size (λ span. Frame pool m limits span message.body []))
  IsNext old new (Refused reason size) = IfSome old (λ input. TakesSpan input new size (λ span. FrameFault pool m limits span (fault_of reason)))
  IsNext old new (Cut reason) = IfSome old (λ input. HasNoSpan input × FrameFault pool m limits input (fault_of reason))

  -- what comes of bytes after a length of `start` bytes that counts `size`, of which they are as many as there are
  abbrev pub IsJudged : ℕ → ℕ → List ℕ → NextFrame → Type 0
  IsJudged start size text End = ⊥
  IsJudged start size text (Message message taken) = (taken ≡ start + size) × IsFrameOf pool m limits size text message.body
  IsJudged start size text (Refused reason taken) =
      (taken ≡ start + size) × (size ≤ length text) × BadFrame pool m limits.depth start size text (fault_of reason)
  IsJudged start size text (Cut reason) = (length text < size) × BadFrame pool m limits.depth start size text (fault_of reason)

-- a message is of the type
abbrev pub IsOfType : Types → ℕ → NextFrame → Type 0
IsOfType pool m End = ⊤
IsOfType pool m (Message message size) = (message.pool ≡ pool) × (message.kind ≡ m)
IsOfType pool m (Refused reason size) = ⊤
IsOfType pool m (Cut reason) = ⊤
