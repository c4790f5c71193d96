use Rattle.std.proofs.Common.{rules, arith}
use Rattle.std.proofs.lemmas.Bool.Decides.{nat_tests}
use Rattle.pb_value.proofs.DepthLemmas.{levels_of-scalar, levels_in_entry-scalar}
use Rattle.pb_value.proofs.judge.depth.+within.Goals as goal

pub value_within-returns-in_default : goal.value_within-returns-in_default
value_within-returns-in_default t c = rw (levels_of-scalar c.args.value.now c.in_default.not-Message) (search rules)

pub entry_within-returns-in_default : goal.entry_within-returns-in_default
entry_within-returns-in_default t c = rw (levels_in_entry-scalar c.args.value.now c.in_default.not-Message) (grind (arith, nat_tests))
