use Rattle.pb_descr_message.proofs.NothingOmitted.{read_strictly, read_leniently}
use Rattle.pb_descr_message.proofs.laws.nothing_omitted.Goals as goal

pub returns : goal.returns
returns c = record { strictly = λ b files are r. read_strictly b are files r; leniently = λ b files are none r. read_leniently b are files none r }
