-- The ranges of what records hold. A payload may have any length here.
use Rattle.std.specs.Prelude.{ℕ, ◌^◌, ◌<◌, List, [], ◌∷◌}
use Rattle.std.specs.List.{AllByRecursion}
use Rattle.pb_wire.specs.Record.{Payload, varint, fixed64, len, group, fixed32, Group, no_more, more, Record}

abbrev pub IsByte : ℕ → Type 0
IsByte b = b < 256

abbrev pub AreBytes : List ℕ → Type 0
AreBytes s = AllByRecursion IsByte s

-- a record's number
abbrev pub IsNumber : ℕ → Type 0
IsNumber k = (0 < k) × (k < 2 ^ 29)

abbrev mutual
  pub IsInRange : Payload → Type 0
  IsInRange (varint n) = n < 2 ^ 64
  IsInRange (fixed64 n) = n < 2 ^ 64
  IsInRange (len s) = AreBytes s
  IsInRange (group g) = IsInRangeGroup g
  IsInRange (fixed32 n) = n < 2 ^ 32

  pub IsInRangeGroup : Group → Type 0
  IsInRangeGroup no_more = Unit {0}
  IsInRangeGroup (more k p g) = IsInRange p × IsInRangeGroup g

-- each payload is in range
abbrev pub AreInRange : List Record → Type 0
AreInRange [] = Unit {0}
AreInRange (r ∷ rs) = IsInRange r.payload × AreInRange rs
