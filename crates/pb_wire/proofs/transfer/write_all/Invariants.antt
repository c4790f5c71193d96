use Rattle.std.proofs.Common.{length, ◌-◌, ◌≡◌, ◌≤◌, take}
use Rattle.std.specs.Io.KnownBytes.{Appends}
use Rattle.pb_wire.proofs.transfer.write_all.Given as goal

abbrev pub invariant-writing : goal.invariant-writing
invariant-writing g l = record {
  in_range : l.done ≤ length l.bytes;
  kept : g.O.Output.failures l.output ≡ g.O.Output.failures l.initial.output;
  sent : Appends (g.O.Output.written l.initial.output) (g.O.Output.written l.output) (take l.done l.bytes);
}

abbrev pub decreases-writing : goal.decreases-writing
decreases-writing g l = length l.bytes - l.done
