use Rattle.pb_descr_message.proofs.OneSet.{one_set}
use Rattle.pb_descr_message.proofs.laws.one_set.Goals as goal

pub returns : goal.returns
returns c = record { one = one_set }
