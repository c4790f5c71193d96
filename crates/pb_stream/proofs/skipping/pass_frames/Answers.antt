use Rattle.std.proofs.Common.{arith, rules}
use Rattle.pb_stream.proofs.SpanLemmas.{more_passed, none_passed}
use Rattle.pb_stream.proofs.skipping.pass_frames.Goals as goal

pub frames-init : goal.frames-init
frames-init g c = record {
  in_range = search rules;
  passed = none_passed (g.I.Input.left c.args.input.now);
  kept = search rules;
  steady = search rules;
}

pub frames-preserved : goal.frames-preserved
frames-preserved g c = record {
  in_range = omega arith;
  passed =
      more_passed c.frames.passed c.frames.offset c.in-Some.size c.saturating_add-offset.result (g.I.Input.left c.args.input.now)
      (g.I.Input.left c.frames.input) (g.I.Input.left c.pass_frame.new.input) c.frames.invariant.passed
      (rw c.in-Some.is at c.in_ok-size.ensures.passed) (omega (arith, c.saturating_add-offset.ensures));
  kept = search rules;
  steady = search rules;
}
