use Rattle.std.proofs.Common.{◌≡◌, ◌-◌, ◌≤◌, true}
use Rattle.std.specs.Prelude.{IfSome}
use Rattle.pb_stream.specs.Passed.{PassesSpans}
use Rattle.pb_stream.proofs.skipping.pass_frames.Given as goal

abbrev pub invariant-frames : goal.invariant-frames
invariant-frames g l = record {
  in_range : l.passed ≤ l.count;
  passed : IfSome (g.I.Input.left l.initial.input) (λ bytes. PassesSpans l.passed bytes (g.I.Input.left l.input) l.offset);
  kept : g.I.Input.failures l.input ≡ g.I.Input.failures l.initial.input;
  steady : g.I.Input.is_steady l.initial.input ≡ true → g.I.Input.is_steady l.input ≡ true;
}

abbrev pub decreases-frames : goal.decreases-frames
decreases-frames g l = l.count - l.passed
