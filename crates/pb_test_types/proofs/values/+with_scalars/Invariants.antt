use Rattle.std.proofs.Common.{length}
use Rattle.pb_test_types.proofs.values.+with_scalars.Given as goal

abbrev pub decreases-with_scalars : goal.decreases-with_scalars
decreases-with_scalars l = length l.words.now
