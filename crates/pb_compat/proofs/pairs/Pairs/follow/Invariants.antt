use Rattle.std.proofs.Common.{take}
use Rattle.pb_compat.specs.Walk.{Follows}
use Rattle.pb_compat.proofs.pairs.Pairs.follow.Given as goal

abbrev pub invariant-loop-number : goal.invariant-loop-number
invariant-loop-number l = Follows l.old l.new l.index (l.old_type.0, l.new_type.0) (take l.number-index l.numbers) l.initial.self l.self
