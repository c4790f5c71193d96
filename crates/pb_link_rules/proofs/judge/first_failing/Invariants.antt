use Rattle.std.proofs.Common.{◌≡◌, drop}
use Rattle.pb_link_rules.specs.Judging.{first_failing}
use Rattle.pb_link_rules.proofs.judge.first_failing.Given as goal

abbrev pub invariant-loop-rule : goal.invariant-loop-rule
invariant-loop-rule l = first_failing l.rules ≡ first_failing (drop l.rule-index l.rules)
