use Rattle.std.proofs.Common.{◌≡◌, take}
use Rattle.std.specs.Prelude.{flat_map}
use Rattle.pb_compat.specs.Fields.{differences_at}
use Rattle.pb_compat.proofs.differences.differences_between.Given as goal

abbrev pub invariant-loop-number : goal.invariant-loop-number
invariant-loop-number l = l.differences.items ≡ flat_map (differences_at l.old l.new l.old_type.0 l.new_type.0) (take l.number-index l.numbers)
