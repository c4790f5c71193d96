-- What `frames --keep-going` prints of a stream of messages, what it reports, and what it answers.
use Rattle.std.specs.Prelude.{◌≡◌, ◌+◌, ◌<◌, ◌^◌, ℕ, zero, suc, List, [], ◌++◌, length, Option, Some}
use Rattle.pb_wire.specs.Fault.{Fault}
use Rattle.pb_wire.specs.Limits.{full}
use Rattle.pb_schema.specs.Types.{Types}
use Rattle.pb_value.specs.Data.{Message}
use Rattle.pb_value.specs.WellFormed.{IsWellFormed}
use Rattle.pb_stream.specs.Frame.{Frame, FrameFault}
use Rattle.pb_stream.specs.Spans.{HasNoSpan, IsSpan}
use Rattle.pbtool_files.specs.Answer.{Answer, done, stopped, broken}
use Rattle.pbtool_files.specs.Report.{frames_line}
use Rattle.pbtool_command.specs.FramesAnswer.{AreFrameLines, FrameRefusal, IsRefusedFrame, MayBeRefused, bad_bytes, frame_refusal_line}
use Rattle.pbtool_command.specs.declared.shown.Shown.{Shown}

-- Some frames of a stream: how many, how many of them are refused, how many bytes they have, what is printed of those that are not refused, and
-- what reports the others.
pub record Passed : Type 0 where
  pub count : ℕ
  pub refused : ℕ
  pub offset : ℕ
  pub text : List ℕ
  pub lines : List ℕ

abbrev pub none_passed : Passed
none_passed = record { count = 0; refused = 0; offset = 0; text = []; lines = [] }

-- and a frame of this number of bytes more, with these lines
abbrev pub and_shown : Passed → ℕ → List ℕ → Passed
and_shown s size shown =
    record { count = suc s.count; refused = s.refused; offset = s.offset + size; text = s.text ++ shown; lines = s.lines }

-- or one that is refused
abbrev pub and_refused : Passed → ℕ → FrameRefusal → Passed
and_refused s size r = record {
  count = suc s.count;
  refused = suc s.refused;
  offset = s.offset + size;
  text = s.text;
  lines = s.lines ++ frame_refusal_line s.count r;
}

-- An input begins with some frames, one after another, and the rest follows. The bytes of each are a frame of a message that is printed, or are refused.
pub data Passes (form : Shown) (pool : Types) (m : ℕ) (input : List ℕ) : Passed → List ℕ → Type 0 where
  none_yet : Passes form pool m input none_passed input
  one_shown :
      {s : Passed} {span rest : List ℕ} {v : Message} (shown : List ℕ) → Passes form pool m input s (span ++ rest) → Frame pool m full span v []
      → AreFrameLines form pool m s.count s.offset (length span) v shown → Passes form pool m input (and_shown s (length span) shown) rest
  one_refused :
      {s : Passed} {span rest : List ℕ} (r : FrameRefusal) → Passes form pool m input s (span ++ rest) → IsSpan span
      → IsRefusedFrame form pool m span r → Passes form pool m input (and_refused s (length span) r) rest

-- this number of frames, whatever their places
pub data ArePassed (form : Shown) (pool : Types) (m : ℕ) : Passed → Type 0 where
  none_there : ArePassed form pool m none_passed
  shown_there :
      {s : Passed} {v : Message} (lines : List ℕ) → ArePassed form pool m s → IsWellFormed pool m v → (offset size : ℕ) → (taken : ℕ)
      → AreFrameLines form pool m s.count offset size v lines → ArePassed form pool m (and_shown s taken lines)
  refused_there :
      {s : Passed} → ArePassed form pool m s → (size : ℕ) (r : FrameRefusal) → MayBeRefused form pool m r → ArePassed form pool m (and_refused s size r)

-- the answer where the frames of a stream are over: of those that are refused the lines, and how many they are
abbrev pub concluded : Passed → Answer
concluded s = by s.refused
  where
    by : ℕ → Answer
    by zero = done s.text
    by (suc n) = stopped s.text (s.lines ++ frames_line (suc n) s.count)

-- Where these say of a type that an input is these frames, that after these frames comes none with an end and this fault, and that the input failed
-- after these frames.
pub data AllFramesAnswer
    (IsAll : Types → ℕ → Passed → Type 0) (StopsAt : Types → ℕ → Passed → Fault → Type 0) (Breaks : Types → ℕ → Passed → Type 0) (path : List ℕ)
    (pool : Types) (m : ℕ) (answer : Answer) : Type 0 where
  all_passed : {s : Passed} → IsAll pool m s → answer ≡ concluded s → AllFramesAnswer IsAll StopsAt Breaks path pool m answer
  cut_after :
      {s : Passed} {f : Fault} → StopsAt pool m s f → answer ≡ concluded (and_refused s 0 (bad_bytes f))
      → AllFramesAnswer IsAll StopsAt Breaks path pool m answer
  failed_after : {s : Passed} → Breaks pool m s → answer ≡ broken s.text path → AllFramesAnswer IsAll StopsAt Breaks path pool m answer

-- of bytes that may be there
module _ (content : Option (List ℕ)) where
  -- the bytes are these frames
  abbrev pub AllAt : Shown → Types → ℕ → Passed → Type 0
  AllAt form pool m s = (input : List ℕ) × (content ≡ Some input) × (length input < 2 ^ 64 → Passes form pool m input s [])

  -- they begin with these frames, and what follows is no frame with an end
  abbrev pub CutAt : Shown → Types → ℕ → Passed → Fault → Type 0
  CutAt form pool m s f =
      (input : List ℕ) × (content ≡ Some input)
      × (length input < 2 ^ 64 → (rest : List ℕ) × Passes form pool m input s rest × HasNoSpan rest × FrameFault pool m full rest f)

  -- they begin with these frames
  abbrev pub BegunAt : Shown → Types → ℕ → Passed → Type 0
  BegunAt form pool m s =
      (input : List ℕ) × (content ≡ Some input) × (length input < 2 ^ 64 → (rest : List ℕ) × Passes form pool m input s rest)

-- What comes of a stream of whose bytes is known what Known says of them, and what is printed before that is known.
module _ (Known : (Option (List ℕ) → Type 0) → Type 0) (form : Shown) where
  abbrev pub AllFramesBy : List ℕ → Types → ℕ → Answer → Type 0
  AllFramesBy path =
      AllFramesAnswer (λ pool m s. ArePassed form pool m s × Known (λ content. AllAt content form pool m s))
      (λ pool m s f. ArePassed form pool m s × Known (λ content. CutAt content form pool m s f))
      (λ pool m s. ArePassed form pool m s × Known (λ content. ⊥)) path

  abbrev pub AllBegunBy : Types → ℕ → List ℕ → Type 0
  AllBegunBy pool m text =
      (s : Passed) × (s.text ≡ text) × ArePassed form pool m s × Known (λ content. BegunAt content form pool m s)
