use Rattle.pb_value.proofs.OrderLemmas.{map_key_cmp-key_cmp}
use Rattle.pb_value.proofs.laws.key_order.Goals as goal

pub returns : goal.returns
returns c = map_key_cmp-key_cmp
