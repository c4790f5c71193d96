use Rattle.pb_compat.proofs.ScalarLemmas.{scalars_kept}
use Rattle.pb_compat.proofs.laws.scalars_kept.Goals as goal

pub returns : goal.returns
returns c old new a b e = scalars_kept new old a b e
