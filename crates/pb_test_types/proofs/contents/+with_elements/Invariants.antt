use Rattle.std.proofs.Common.{length}
use Rattle.pb_test_types.proofs.contents.+with_elements.Given as goal

abbrev pub decreases-with_elements : goal.decreases-with_elements
decreases-with_elements l = length l.words.now
