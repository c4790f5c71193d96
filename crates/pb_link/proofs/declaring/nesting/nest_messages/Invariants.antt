use Rattle.std.proofs.Common.{◌≤◌, length}
use Rattle.pb_link.specs.Nested.{AreNested}
use Rattle.pb_link.proofs.declaring.nesting.nest_messages.Given as goal

abbrev pub invariant-loop-inside : goal.invariant-loop-inside
invariant-loop-inside l = record {
  within : length l.messages.items ≤ length l.pool.messages;
  nested : AreNested l.pool (length l.messages.items) (length l.pool.enums) l.files.items l.messages.items;
}

abbrev pub decreases-loop-inside : goal.decreases-loop-inside
decreases-loop-inside l = length l.messages.items
