use Rattle.std.proofs.Common.{◌≡◌, ◌-◌, ◌≤◌, true}
use Rattle.pb_stream.specs.Taking.{Takes}
use Rattle.pb_stream.proofs.passing.pass_over.Given as goal

abbrev pub invariant-passing : goal.invariant-passing
invariant-passing g l = record {
  in_range : l.done ≤ l.count;
  taken : Takes l.done (g.I.Input.left l.initial.input) (g.I.Input.left l.input);
  kept : g.I.Input.failures l.input ≡ g.I.Input.failures l.initial.input;
  steady : g.I.Input.is_steady l.initial.input ≡ true → g.I.Input.is_steady l.input ≡ true;
}

abbrev pub decreases-passing : goal.decreases-passing
decreases-passing g l = l.count - l.done
