use Rattle.pb_link.proofs.TypedLemmas.{resolved_typed}
use Rattle.pb_link.proofs.laws.resolved_types.Goals as goal

pub returns : goal.returns
returns c = record { typed = resolved_typed }
