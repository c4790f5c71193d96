use Rattle.std.proofs.Common.{◌≡◌, length}
use Rattle.pb_schema.specs.Scalar.{bytes_cmp}
use Rattle.pb_canonical.proofs.keys.are_bytes_below.Given as goal

-- what is left is in the order of the whole
abbrev pub invariant-loop-one : goal.invariant-loop-one
invariant-loop-one l = bytes_cmp l.one l.other ≡ bytes_cmp l.first l.second

abbrev pub decreases-loop-one : goal.decreases-loop-one
decreases-loop-one l = length l.one
