-- What `frames` prints of a stream of messages, and what it answers.
use Rattle.std.specs.Prelude.{◌≡◌, ◌+◌, ⊤, Bool, true, false, ℕ, suc, List, [], ◌++◌, codes, decimal, length}
use Rattle.pb_wire.specs.Fault.{Fault}
use Rattle.pb_wire.specs.Limits.{full}
use Rattle.pb_schema.specs.Types.{Types}
use Rattle.pb_value.specs.Data.{Message}
use Rattle.pb_value.specs.WellFormed.{IsWellFormed}
use Rattle.pb_stream.specs.Frame.{Frame, FrameFault}
use Rattle.pb_json.specs.Answers.{IsRefused}
use Rattle.pb_json.specs.Refusals.{Refused}
use Rattle.pb_json.specs.declared.form.Layout.TheVariants.{Compact}
use Rattle.pbtool_files.specs.Answer.{Answer, done, stopped, broken}
use Rattle.pb_listing.specs.ListingAs.{AreMessageLines}
use Rattle.pb_listing.specs.RawListing.{line}
use Rattle.pbtool_files.specs.Report.{frame_fault_line, frame_json_line}
use Rattle.pbtool_command.specs.JsonAnswer.{IsJsonLine}
use Rattle.pbtool_command.specs.declared.shown.Shown.{Shown}
use Rattle.pbtool_command.specs.declared.shown.Shown.TheVariants.{Listing, Json}

-- the line of a frame: which one it is, where it begins and how many bytes it has
abbrev pub frame_line : ℕ → ℕ → ℕ → List ℕ
frame_line index offset size = line 0 (codes "frame " ++ decimal index ++ codes " at " ++ decimal offset ++ codes " size " ++ decimal size)

-- the bytes are the lines of a frame: this one, and its message one level in, with floats listed so; or its message as a line of JSON
abbrev pub AreFrameLines : Shown → Types → ℕ → ℕ → ℕ → ℕ → Message → List ℕ → Type 0
AreFrameLines (Listing floats) pool m index offset size v s =
    (inside : List ℕ) × (s ≡ frame_line index offset size ++ inside) × AreMessageLines floats pool 1 m v inside
AreFrameLines (Json names) pool m index offset size v s = IsJsonLine Compact names (record { pool = pool; kind = m; body = v }) s

-- frames are printed as JSON
abbrev pub are_json : Shown → Bool
are_json (Listing floats) = false
are_json (Json names) = true

-- why a frame is refused: its bytes have a fault, or a part of its message has no JSON form
pub data FrameRefusal : Type 0 where
  bad_bytes : Fault → FrameRefusal
  no_json : Refused → FrameRefusal

-- the line that reports it of the frame of an index
abbrev pub frame_refusal_line : ℕ → FrameRefusal → List ℕ
frame_refusal_line index (bad_bytes f) = frame_fault_line index f
frame_refusal_line index (no_json r) = frame_json_line index r.path r.cause

-- what an input begins with is refused so: it is no frame; or it is one, and is printed as JSON, and its message has no JSON form
abbrev pub IsRefusedFrame : Shown → Types → ℕ → List ℕ → FrameRefusal → Type 0
IsRefusedFrame form pool m input (bad_bytes f) = FrameFault pool m full input f
IsRefusedFrame form pool m input (no_json r) =
    (are_json form ≡ true) × ((v : Message) × (rest : List ℕ) × Frame pool m full input v rest × IsRefused (record { pool = pool; kind = m; body = v }) r)

-- frames of the type may be refused so, whatever their bytes
abbrev pub MayBeRefused : Shown → Types → ℕ → FrameRefusal → Type 0
MayBeRefused form pool m (bad_bytes f) = ⊤
MayBeRefused form pool m (no_json r) =
    (are_json form ≡ true) × ((v : Message) × IsWellFormed pool m v × IsRefused (record { pool = pool; kind = m; body = v }) r)

-- the lines of this number of frames, whatever their places
pub data AreFrames (form : Shown) (pool : Types) (m : ℕ) : ℕ → List ℕ → Type 0 where
  none : AreFrames form pool m 0 []
  one_more :
      {count : ℕ} {text : List ℕ} {v : Message} (lines : List ℕ) → AreFrames form pool m count text → IsWellFormed pool m v → (offset size : ℕ)
      → AreFrameLines form pool m count offset size v lines → AreFrames form pool m (suc count) (text ++ lines)

-- an input begins with these numbers of frames and of bytes, with these lines, and the rest follows
pub data BeginsWith (form : Shown) (pool : Types) (m : ℕ) (input : List ℕ) : ℕ → ℕ → List ℕ → List ℕ → Type 0 where
  no_frame : BeginsWith form pool m input 0 0 [] input
  frame_more :
      {count offset : ℕ} {text rest after : List ℕ} {v : Message} (lines : List ℕ) (size : ℕ) → BeginsWith form pool m input count offset text rest
      → Frame pool m full rest v after → length rest ≡ size + length after → AreFrameLines form pool m count offset size v lines
      → BeginsWith form pool m input (suc count) (offset + size) (text ++ lines) after

-- Where these say of a type that an input is frames with these lines, that after a number of frames with these lines one is refused, and that the input
-- failed after frames with these lines.
pub data FramesAnswer
    (IsFrames : Types → ℕ → List ℕ → Type 0) (StopsAt : Types → ℕ → ℕ → List ℕ → FrameRefusal → Type 0) (BreaksBehind : Types → ℕ → List ℕ → Type 0)
    (path : List ℕ) (pool : Types) (m : ℕ) (answer : Answer) : Type 0 where
  ended : {text : List ℕ} → IsFrames pool m text → answer ≡ done text → FramesAnswer IsFrames StopsAt BreaksBehind path pool m answer
  frame_refused :
      {count : ℕ} {text : List ℕ} {r : FrameRefusal} → StopsAt pool m count text r → answer ≡ stopped text (frame_refusal_line count r)
      → FramesAnswer IsFrames StopsAt BreaksBehind path pool m answer
  input_failed : {text : List ℕ} → BreaksBehind pool m text → answer ≡ broken text path → FramesAnswer IsFrames StopsAt BreaksBehind path pool m answer
