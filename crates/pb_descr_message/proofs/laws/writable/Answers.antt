use Rattle.std.proofs.Common.{map}
use Rattle.pb_declarations.specs.View.{file_view}
use Rattle.pb_descr_message.proofs.RangeLemmas.{set_real}
use Rattle.pb_descr_message.proofs.laws.writable.Goals as goal

pub returns : goal.returns
returns c = record { limits = λ within. (set_real (map file_view c.args.files.now) c.read_files.ensures within.0, within.1) }
