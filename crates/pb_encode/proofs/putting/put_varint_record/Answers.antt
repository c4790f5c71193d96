use Rattle.std.proofs.Common.{arith}
use Rattle.pb_encode.proofs.PutLemmas.{puts_behind_number}
use Rattle.pb_encode.proofs.putting.put_varint_record.Goals as goal

pub returns : goal.returns
returns g c = puts_behind_number _ _ _ (omega arith) c.put_varints.ensures
