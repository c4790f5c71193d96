use Rattle.pb_wire.proofs.InsideLemmas.{records_spelled-AreRecords, records_spelled-shortest}
use Rattle.pb_wire.proofs.laws.read_back.Goals as goal

pub returns-clause-spelled : goal.returns-clause-spelled
returns-clause-spelled c = λ rs b small spelled. records_spelled-AreRecords rs b spelled small

pub returns-clause-shortest : goal.returns-clause-shortest
returns-clause-shortest c = records_spelled-shortest
