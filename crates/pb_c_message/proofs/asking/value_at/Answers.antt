use Rattle.std.proofs.Common.{Some, sym, ap}
use Rattle.pb_place.specs.Found.{found_view}
use Rattle.pb_c_message.proofs.asking.value_at.Goals as goal

pub returns : goal.returns
returns c = (Some (found_view c.in_ok-found.found), c.in_ok-found.ensures, ap Some (sym c.plain_found.ensures))
