use Rattle.pb_wire.proofs.FaultBounds.{told}
use Rattle.pb_wire.proofs.laws.fault_bounds.Goals as goal

pub returns-clause-bounds : goal.returns-clause-bounds
returns-clause-bounds g c = λ reading group o depth_left p f bad. let t = told bad in (t.low, t.high)

pub returns-clause-cut : goal.returns-clause-cut
returns-clause-cut g c = λ reading group o depth_left p f bad. let t = told bad in t.cut

pub returns-clause-within : goal.returns-clause-within
returns-clause-within g c = λ reading group o depth_left p f bad. let t = told bad in t.small
