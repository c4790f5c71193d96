use Rattle.pb_link.proofs.DeclaredFileLemmas.{files_again}
use Rattle.pb_link.proofs.HeadLemmas.{heads_in_order}
use Rattle.pb_link.proofs.EnumHeadLemmas.{enums_in_order}
use Rattle.pb_link.proofs.declaring.order.declared_order.Goals as goal

pub returns : goal.returns
returns c = record { messages = heads_in_order; enums = enums_in_order; files = files_again }
