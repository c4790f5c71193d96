use Rattle.std.proofs.Common.{Some, sym, ap}
use Rattle.pb_value.specs.Data.{scalar}
use Rattle.pb_place.specs.At.{single}
use Rattle.pb_find.specs.View.{scalar_view}
use Rattle.pb_c_message.proofs.finding.plain_held.Goals as goal

pub returns : goal.returns
returns c = λ keys. (Some (single (scalar (scalar_view c.in_ok-found.found))), c.in_ok-found.ensures keys, ap (λ x. Some x) (sym c.scalar_value.ensures))
