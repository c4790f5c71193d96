use Rattle.std.proofs.Common.{length}
use Rattle.pb_link.specs.Nested.{AreNested}
use Rattle.pb_link.proofs.declaring.nesting.nest_enums.Given as goal

abbrev pub invariant-loop-entry : goal.invariant-loop-entry
invariant-loop-entry l = AreNested l.pool (length l.pool.messages) l.entry-index l.files.items l.messages.items
