use Rattle.std.proofs.Common.{sym, ◌∙◌, arith}
use Rattle.pb_json_text.proofs.Steps.{plain_at}
use Rattle.pb_json_text.proofs.strings.plain_end.Goals as goal

pub loop-at-preserved : goal.loop-at-preserved
loop-at-preserved c = record {
  within = omega arith;
  passed = omega arith;
  runs = λ s at t v k. plain_at c.args.bytes.now c.args.from c.loop-at.at s at t v k _ c.loop-at.invariant.passed c.loop-at-test.true (sym c.is_plain.ensures ∙ c.if-is_plain.true) (c.loop-at.invariant.runs s at t v k);
}
