use Rattle.std.proofs.Common.{sym, ◌∙◌, arith}
use Rattle.pb_json_text.proofs.Steps.{blank_at}
use Rattle.pb_json_text.proofs.bytes.blanks_end.Goals as goal

pub loop-at-preserved : goal.loop-at-preserved
loop-at-preserved c = record {
  within = omega arith;
  passed = omega arith;
  runs = λ m s. blank_at c.args.bytes.now c.args.from c.loop-at.at m s c.loop-at-test.true (sym c.is_blank.ensures ∙ c.if-is_blank.true) (c.loop-at.invariant.runs m s);
}
