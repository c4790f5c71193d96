-- Facts that only private functions and their loops need: no public contract rests on them.
use Rattle.std.specs.Prelude.{◌≡◌, ◌<◌, ℕ, List, length, Option}
use Rattle.std.specs.List.{AllByRecursion}
use Rattle.std.specs.Io.KnownBytes.{Consumes, IsAtEnd}
use Rattle.pb_wire.specs.Varint.{EndsOnce}
use Rattle.pb_wire.specs.Fault.{IsHigh}

-- high bytes were taken, fewer than ten
abbrev pub TakesHigh : Option (List ℕ) → Option (List ℕ) → Type 0
TakesHigh old new = (taken : List ℕ) × (length taken < 10) × AllByRecursion IsHigh taken × Consumes old new taken

-- bytes that were taken as those of a varint: the last is below 128, or all are high and there are ten, or no more were left
pub data EndsVarint (taken : List ℕ) (left : Option (List ℕ)) : Type 0 where
  low : EndsOnce taken → EndsVarint taken left
  too_long : length taken ≡ 10 → AllByRecursion IsHigh taken → EndsVarint taken left
  cut : AllByRecursion IsHigh taken → IsAtEnd left → EndsVarint taken left
