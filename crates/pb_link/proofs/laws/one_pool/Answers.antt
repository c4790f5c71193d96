use Rattle.pb_link.proofs.OnePool.{one_pool}
use Rattle.pb_link.proofs.laws.one_pool.Goals as goal

pub returns : goal.returns
returns c = record { one = one_pool }
