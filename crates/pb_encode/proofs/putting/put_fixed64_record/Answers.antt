use Rattle.std.proofs.Common.{arith}
use Rattle.pb_encode.proofs.PutLemmas.{puts_behind_number}
use Rattle.pb_encode.proofs.putting.put_fixed64_record.Goals as goal

pub returns : goal.returns
returns g c = puts_behind_number _ _ _ (omega arith) (rw c.to_le_bytes.ensures at c.put_varint_before.ensures)
