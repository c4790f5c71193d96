use Rattle.std.proofs.Common.{◌≡◌, ◌≤◌, ◌<◌, ◌+◌, ◌-◌, ◌*◌, ℕ, length, drop}
use Rattle.pb_json_text.specs.View.{elements_view, members_view}
use Rattle.pb_json_text.specs.Loops.Machine.{Stack, in_array, in_brackets, in_braces, run}
use Rattle.pb_json_text.specs.Loops.States.{run_begin, run_name}
use Rattle.pb_json_text.proofs.reading.+read.Given as goal

abbrev pub decreases-value : goal.decreases-value
decreases-value l = l.levels * 5 + 1

abbrev pub decreases-array : goal.decreases-array
decreases-array l = l.levels * 5

abbrev pub decreases-object : goal.decreases-object
decreases-object l = l.levels * 5

abbrev pub decreases-elements : goal.decreases-elements
decreases-elements l = l.levels * 5 + 3

abbrev pub decreases-member : goal.decreases-member
decreases-member l = l.levels * 5 + 2

abbrev pub decreases-members : goal.decreases-members
decreases-members l = l.levels * 5 + 3

abbrev pub invariant-elements-items : goal.invariant-elements-items
invariant-elements-items l = record {
  within : l.at < length l.input;
  passed : l.from ≤ l.at;
  runs : (a : ℕ) (k : Stack) → run (in_brackets l.levels a k) l.from (drop l.from l.input) ≡ run_begin l.levels (in_array (elements_view l.items.items) a k) l.at (drop l.at l.input);
}

abbrev pub decreases-elements-items : goal.decreases-elements-items
decreases-elements-items l = length l.input - l.at

abbrev pub invariant-members-items : goal.invariant-members-items
invariant-members-items l = record {
  within : l.at < length l.input;
  passed : l.from ≤ l.at;
  runs : (a : ℕ) (k : Stack) → run (in_braces l.levels a k) l.from (drop l.from l.input) ≡ run_name l.levels a (members_view l.items.items) k l.at (drop l.at l.input);
}

abbrev pub decreases-members-items : goal.decreases-members-items
decreases-members-items l = length l.input - l.at
