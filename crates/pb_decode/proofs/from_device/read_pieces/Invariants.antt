use Rattle.std.proofs.Common.{◌≡◌, true, ◌≤◌, ◌-◌}
use Rattle.pb_decode.specs.Loops.{ReadsOn}
use Rattle.pb_decode.proofs.from_device.read_pieces.Given as goal

abbrev pub invariant-reading : goal.invariant-reading
invariant-reading g l = record {
  within : l.taken ≤ l.most;
  read : ReadsOn l.pool l.fn.reading l.reading (g.I.Input.left l.initial.input) (g.I.Input.left l.input) l.taken;
  kept : g.I.Input.failures l.input ≡ g.I.Input.failures l.initial.input;
  steady : g.I.Input.is_steady l.initial.input ≡ true → g.I.Input.is_steady l.input ≡ true;
}

abbrev pub decreases-reading : goal.decreases-reading
decreases-reading g l = l.most - l.taken
