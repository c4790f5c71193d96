use Rattle.pb_compat.proofs.WholeLemmas.{messages_read}
use Rattle.pb_compat.proofs.EncodingLemmas.{encodings_read}
use Rattle.pb_compat.proofs.laws.messages_read.Goals as goal

pub returns-clause-records : goal.returns-clause-records
returns-clause-records c old new a b = messages_read old new a b

pub returns-clause-bytes : goal.returns-clause-bytes
returns-clause-bytes c old new a b = encodings_read old new a b
