use Rattle.pb_link_rules.specs.Judging.{first_failing}
use Rattle.pb_link_rules.proofs.JudgeLemmas.{failing_on}
use Rattle.pb_link_rules.proofs.judge.first_failing.Goals as goal

pub loop-rule-preserved : goal.loop-rule-preserved
loop-rule-preserved c = failing_on c.args.rules.now c.loop-rule.rule-index _ (first_failing c.args.rules.now) c.loop-rule-test.true c.loop-rule.invariant c.if-not-rule.false
