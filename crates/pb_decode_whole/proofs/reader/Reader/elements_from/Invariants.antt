use Rattle.std.proofs.Common.{◌-◌, ◌≤◌, map, length}
use Rattle.pb_value.specs.View.{value_view}
use Rattle.pb_decode_whole.specs.Listed.{ReadsList}
use Rattle.pb_decode_whole.proofs.reader.Reader.elements_from.Given as goal

abbrev pub invariant-loop-next : goal.invariant-loop-next
invariant-loop-next l = record {
  after : l.size ≤ l.here;
  within : l.here ≤ length l.at.bytes.now;
  put : ReadsList l.self.pool.now l.kind l.at.tag.number (map value_view l.values.items) l.at.bytes.now l.at.left.remaining l.here;
}

abbrev pub decreases-loop-next : goal.decreases-loop-next
decreases-loop-next l = length l.at.bytes.now - l.here
