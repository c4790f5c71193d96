use Rattle.std.proofs.Common.{ℕ, List, length, ◌+◌, ◌*◌}
use Rattle.pb_canonical.specs.Parts.{IsStop, InsideFirst}
use Rattle.pb_canonical.proofs.unknown.+raw.Given as goal

abbrev pub decreases-raw_first : goal.decreases-raw_first
decreases-raw_first l = 4 * l.levels + 1

abbrev pub decreases-group_first : goal.decreases-group_first
decreases-group_first l = 4 * l.levels

abbrev pub decreases-inside_first : goal.decreases-inside_first
decreases-inside_first l = 4 * l.levels + 2

-- What is the rest of the records makes the whole, and the whole is what was read and the rest.
abbrev pub invariant-inside_first-records : goal.invariant-inside_first-records
invariant-inside_first-records l = record {
  whole : (end : List ℕ) → InsideFirst l.levels l.rest end → InsideFirst l.levels l.bytes end;
  left : (s : List ℕ) → IsStop s → InsideFirst l.levels l.bytes s → InsideFirst l.levels l.rest s;
}

abbrev pub decreases-inside_first-records : goal.decreases-inside_first-records
decreases-inside_first-records l = length l.rest
