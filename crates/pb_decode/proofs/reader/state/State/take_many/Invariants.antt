use Rattle.std.proofs.Common.{◌≡◌, ◌+◌, ◌*◌, ◌≤◌, ◌-◌, ℕ, List, drop, length}
use Rattle.pb_wire.specs.Record.{Record}
use Rattle.pb_wire.specs.Fault.{Place}
use Rattle.pb_decode.specs.Reader.{state_view, weight, Reads}
use Rattle.pb_decode.proofs.reader.state.State.take_many.Given as goal

abbrev pub invariant-loop-self : goal.invariant-loop-self
invariant-loop-self l = record {
  within : l.here ≤ length l.bytes;
  at : l.self.at ≡ l.fn.self.at + l.here;
  weighs : weight l.self.step ≤ 2 * l.here + weight l.fn.self.step;
  reads :
      (m depth levels : ℕ) (base : List Record) (p0 : Place) → Reads l.by.pool.now m depth levels base p0 (state_view l.fn.self) l.fn.bytes
      → Reads l.by.pool.now m depth levels base p0 (state_view l.self) (drop l.here l.bytes);
}

abbrev pub decreases-loop-self : goal.decreases-loop-self
decreases-loop-self l = length l.bytes - l.here
