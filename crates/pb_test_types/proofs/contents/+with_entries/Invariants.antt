use Rattle.std.proofs.Common.{length}
use Rattle.pb_test_types.proofs.contents.+with_entries.Given as goal

abbrev pub decreases-with_entries : goal.decreases-with_entries
decreases-with_entries l = length l.words.now
