use Rattle.pb_source.proofs.OneSource.{one_file}
use Rattle.pb_source.proofs.laws.one_source.Goals as goal

pub returns : goal.returns
returns c = record { one = one_file }
