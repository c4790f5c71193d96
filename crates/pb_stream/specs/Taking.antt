-- What is taken of a device where a frame is read from it.
use Rattle.std.specs.Prelude.{◌≡◌, ◌+◌, ◌-◌, ◌^◌, ◌≤◌, ℕ, min, List, [], ◌++◌, length, Option}
use Rattle.std.specs.List.{AllByRecursion}
use Rattle.std.specs.Io.KnownBytes.{Consumes, IsAtEnd}
use Rattle.pb_wire.specs.Varint.{IsVarint}
use Rattle.pb_wire.specs.Fault.{IsHigh}
use Rattle.pb_wire.specs.Limits.{Bounds}

-- These bytes don't go past the end of the frame that they begin: they are in its length, or there are no more of
-- them after a length within the limit than it counts.
pub data IsInFrame (limits : Bounds) (taken : List ℕ) : Type 0 where
  in_length : length taken ≤ 10 → AllByRecursion IsHigh taken → IsInFrame limits taken
  whole_length : {n : ℕ} → IsVarint n taken → IsInFrame limits taken
  in_text :
      {n : ℕ} {front : List ℕ} → (text : List ℕ) → taken ≡ front ++ text → IsVarint n front → n ≤ limits.bytes → length text ≤ n → IsInFrame limits taken

-- what was taken of an input goes no further than its frame
abbrev pub StaysInFrame : Bounds → Option (List ℕ) → Option (List ℕ) → Type 0
StaysInFrame limits old new = (taken : List ℕ) × Consumes old new taken × IsInFrame limits taken

-- this number of bytes was taken
abbrev pub Takes : ℕ → Option (List ℕ) → Option (List ℕ) → Type 0
Takes size old new = (taken : List ℕ) × (length taken ≡ size) × Consumes old new taken

-- the bytes of a length were taken
abbrev pub TakesLength : ℕ → ℕ → Option (List ℕ) → Option (List ℕ) → Type 0
TakesLength start size old new = (front : List ℕ) × IsVarint size front × (length front ≡ start) × Consumes old new front

-- nothing was taken, since nothing was left
abbrev pub TakesNone : Option (List ℕ) → Option (List ℕ) → Type 0
TakesNone old new = Consumes old new [] × IsAtEnd new

-- how many bytes were taken is counted, up to the greatest u64
abbrev pub Counts : ℕ → ℕ → Option (List ℕ) → Option (List ℕ) → Type 0
Counts before after old new = (taken : List ℕ) × Consumes old new taken × (after ≡ min (before + length taken) (2 ^ 64 - 1))
