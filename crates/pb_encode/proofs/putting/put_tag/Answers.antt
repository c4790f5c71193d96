use Rattle.std.proofs.Common.{arith}
use Rattle.pb_output.proofs.SinkLemmas.{puts_number}
use Rattle.pb_encode.proofs.putting.put_tag.Goals as goal

pub returns : goal.returns
returns g c = puts_number _ _ (omega arith) c.put_number.ensures
