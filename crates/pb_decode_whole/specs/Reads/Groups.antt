-- Groups: an end tag ends their records.
use Rattle.std.specs.Prelude.{ℕ, List, Some, Result, IfOk}
use Rattle.pb_wire.specs.Fault.{HasTag}
use Rattle.pb_wire.specs.Scan.{given_at, passed}
use Rattle.pb_schema.specs.Types.{Types}
use Rattle.pb_decode_parts.specs.declared.open.part.Part.{Part as PartKept}
use Rattle.pb_decode_parts.specs.Open.Parents.{Part}
use Rattle.pb_decode_parts.specs.Open.PartView.{part_view}
use Rattle.pb_decode_whole.specs.declared.reader.Left.{Left}
use Rattle.pb_decode_whole.specs.Reads.{ReadsTo}

-- whole records begin the bytes, and after them comes the end tag of this number: this many bytes with that
abbrev pub ReadsToEnd : Types → ℕ → Part → Part → List ℕ → ℕ → ℕ → ℕ → Type 0
ReadsToEnd pool number old new bytes left depth_left size =
    (used : ℕ) × ReadsTo pool old new bytes left depth_left used
    × ((at : ℕ) → HasTag (passed (given_at at (Some left) bytes) used) number 4 (passed (given_at at (Some left) bytes) size))

-- where the records of a group are read
abbrev pub ReadsGroup : {E : Type 0} → Types → ℕ → PartKept → PartKept → List ℕ → Left → Result ℕ E → Type 0
ReadsGroup pool number old new bytes left result = IfOk result (ReadsToEnd pool number (part_view old) (part_view new) bytes left.remaining left.depth_left)
