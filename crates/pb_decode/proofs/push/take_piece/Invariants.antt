use Rattle.std.proofs.Common.{◌≡◌, ◌+◌, ◌-◌, ◌≤◌, ℕ, List, take, length}
use Rattle.pb_wire.specs.Record.{Record}
use Rattle.pb_wire.specs.Fault.{Place}
use Rattle.pb_wire.specs.Exact.{longer}
use Rattle.pb_decode.specs.Reader.{state_view, Reads}
use Rattle.pb_decode.proofs.push.take_piece.Given as goal

abbrev pub invariant-loop-reading : goal.invariant-loop-reading
invariant-loop-reading l = record {
  within : l.here ≤ length l.piece;
  at : l.reading.reader.at + length l.reading.held.items ≡ l.fn.reading.reader.at + length l.fn.reading.held.items + l.here;
  reads :
      (m depth levels : ℕ) (base : List Record) (p0 : Place) → Reads l.pool m depth levels base p0 (state_view l.fn.reading.reader) l.fn.reading.held.items
      → Reads l.pool m depth levels base (longer p0 (take l.here l.piece)) (state_view l.reading.reader) l.reading.held.items;
}

abbrev pub decreases-loop-reading : goal.decreases-loop-reading
decreases-loop-reading l = length l.piece - l.here
