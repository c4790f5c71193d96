use Rattle.std.proofs.Common.{◌≡◌, true, ◌≤◌, length, ◌-◌, vec_len}
use Rattle.std.specs.Io.KnownBytes.{Consumes}
use Rattle.pb_wire.proofs.transfer.read_up_to.Given as goal

abbrev pub invariant-reading : goal.invariant-reading
invariant-reading g l = record {
  in_range : length l.text.items ≤ l.limit;
  kept : g.I.Input.failures l.input ≡ g.I.Input.failures l.initial.input;
  steady : g.I.Input.is_steady l.initial.input ≡ true → g.I.Input.is_steady l.input ≡ true;
  taken : Consumes (g.I.Input.left l.initial.input) (g.I.Input.left l.input) l.text.items;
}

abbrev pub decreases-reading : goal.decreases-reading
decreases-reading g l = l.limit - vec_len l.text
