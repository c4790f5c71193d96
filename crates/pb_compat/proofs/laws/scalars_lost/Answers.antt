use Rattle.pb_compat.proofs.LostLemmas.{scalars_lost}
use Rattle.pb_compat.proofs.laws.scalars_lost.Goals as goal

pub returns : goal.returns
returns c old new = scalars_lost old new
