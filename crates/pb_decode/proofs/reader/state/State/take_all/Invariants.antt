use Rattle.std.proofs.Common.{◌≡◌, ◌+◌, ◌≤◌, ℕ, List, drop, length, ◌-◌, ◌*◌}
use Rattle.pb_wire.specs.Record.{Record}
use Rattle.pb_wire.specs.Fault.{Place}
use Rattle.pb_decode.specs.Reader.{state_view, Reads, weight}
use Rattle.pb_decode.proofs.reader.state.State.take_all.Given as goal

abbrev pub invariant-loop-ahead : goal.invariant-loop-ahead
invariant-loop-ahead l = record {
  within : l.here ≤ length l.bytes;
  at : l.self.at ≡ l.fn.self.at + l.here;
  reads :
      (m depth levels : ℕ) (base : List Record) (p0 : Place) → Reads l.by.pool.now m depth levels base p0 (state_view l.fn.self) l.fn.bytes
      → Reads l.by.pool.now m depth levels base p0 (state_view l.self) (drop l.here l.bytes);
}

abbrev pub decreases-loop-ahead : goal.decreases-loop-ahead
decreases-loop-ahead l = 2 * (length l.bytes - l.here) + weight l.self.step
