use Rattle.pb_find.proofs.FoundLemmas.{found_is_scalar_at}
use Rattle.pb_find.proofs.laws.found_is_scalar_at.Goals as goal

pub returns : goal.returns
returns c = found_is_scalar_at
