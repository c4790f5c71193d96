use Rattle.std.proofs.Common.{refl}
use Rattle.pb_output.proofs.SinkLemmas.{puts_held, puts_then}
use Rattle.pb_text.proofs.values.put_natural.Goals as goal

pub returns : goal.returns
returns g c = puts_then c.reserve.ensures.kept (puts_held refl refl c.push_decimal.ensures.after)
