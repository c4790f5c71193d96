use Rattle.pb_schema.specs.ReadBack.{read-written}
use Rattle.pb_schema.proofs.laws.reads_back.Goals as goal

pub returns : goal.returns
returns c = read-written
