use Rattle.pb_value.proofs.NoCause.{no_cause}
use Rattle.pb_value.proofs.laws.no_cause.Goals as goal

pub returns : goal.returns
returns c = no_cause
