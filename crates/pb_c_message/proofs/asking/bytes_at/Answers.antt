use Rattle.std.proofs.Common.{Some, sym}
use Rattle.pb_place.specs.Found.{found_view}
use Rattle.pb_c_message.proofs.asking.bytes_at.Goals as goal

pub returns-in-Some : goal.returns-in-Some
returns-in-Some c = (Some (found_view c.in_ok-found.found), c.in_ok-found.ensures, sym c.in-Some.ensures)

pub returns-in-None : goal.returns-in-None
returns-in-None c = (Some (found_view c.in_ok-found.found), c.in_ok-found.ensures, sym c.in-None.ensures)
