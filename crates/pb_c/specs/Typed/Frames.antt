-- The result of reading a frame, in the words of the call.
use Rattle.std.specs.Prelude.{◌≡◌, ◌⊎◌, ◌++◌, ◌+◌, ◌-◌, ◌^◌, ℕ, min, List, [], length}
use Rattle.pb_wire.specs.Exact.{IsCut}
use Rattle.pb_wire.specs.Fault.{Fault}
use Rattle.pb_wire.specs.Limits.{Bounds}
use Rattle.pb_wire.specs.Varint.{IsVarint}
use Rattle.pb_schema.specs.Types.{Types}
use Rattle.pb_value.specs.Data.{Message}
use Rattle.pb_stream.specs.Frame.{Frame, FrameFault}
use Rattle.pb_c.specs.declared.typed.frames.FrameReport.{FrameReport}

-- The bytes begin with a frame, whose message is here.
pub record IsFramed (pool : Types) (m : ℕ) (limits : Bounds) (bytes : List ℕ) (report : FrameReport) : Type 0 where
  pub value : Message
  pub rest : List ℕ
  pub frame : Frame pool m limits bytes value rest
  pub begins : report.begin ≡ length frame.front
  pub ends : report.end ≡ length (frame.front ++ frame.text)

-- the varint of a number that the bytes begin with
abbrev pub BeginsWith : List ℕ → ℕ → List ℕ → Type 0
BeginsWith bytes n front = IsVarint n front × ((rest : List ℕ) × (bytes ≡ front ++ rest))

-- Where the message begins and ends by the length that the bytes begin with, up to the greatest size; zeros where they begin with none.
pub record IsSpan (bytes : List ℕ) (report : FrameReport) : Type 0 where
  pub counted : (n : ℕ) (front : List ℕ) → BeginsWith bytes n front → (report.begin ≡ length front) × (report.end ≡ min (length front + n) (2 ^ 64 - 1))
  pub unread : ((n : ℕ) (front : List ℕ) → ¬ BeginsWith bytes n front) → (report.begin ≡ 0) × (report.end ≡ 0)

-- the bytes end before their frame does: there are none, or they are cut short
abbrev pub IsPart : Types → ℕ → Bounds → List ℕ → Type 0
IsPart pool m limits bytes = (bytes ≡ []) ⊎ ((f : Fault) × FrameFault pool m limits bytes f × IsCut f)

-- what the bytes begin with is no frame, whatever follows them
pub record IsNoFrame (pool : Types) (m : ℕ) (limits : Bounds) (bytes : List ℕ) (f : Fault) : Type 0 where
  pub fault : FrameFault pool m limits bytes f
  pub settled : ¬ IsCut f

-- a call's answer to the fault of a frame: more bytes are needed, or else this is reported
abbrev pub AnswersFault : ℕ → (Fault → Type 0) → Fault → Type 0
AnswersFault answer Told f = (IsCut f × (answer ≡ 5)) ⊎ ((¬ IsCut f) × (answer ≡ 13) × Told f)
