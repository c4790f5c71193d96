use Rattle.std.proofs.Common.{ℕ, List, length}
use Rattle.pb_canonical.specs.Parts.{IsStop, UnknownsFirst}
use Rattle.pb_canonical.proofs.unknown.unknowns_first.Given as goal

-- What is the rest of the records makes the whole, and the whole is what was read and the rest.
abbrev pub invariant-records : goal.invariant-records
invariant-records l = record {
  whole : (end : List ℕ) → UnknownsFirst l.pool l.message_type.0 l.levels l.rest end → UnknownsFirst l.pool l.message_type.0 l.levels l.bytes end;
  left : (s : List ℕ) → IsStop s → UnknownsFirst l.pool l.message_type.0 l.levels l.bytes s → UnknownsFirst l.pool l.message_type.0 l.levels l.rest s;
}

abbrev pub decreases-records : goal.decreases-records
decreases-records l = length l.rest
