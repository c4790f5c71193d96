use Rattle.std.proofs.Common.{map}
use Rattle.pb_link_names.specs.View.{declaration_view}
use Rattle.pb_link_names.specs.Places.{sees_if}
use Rattle.pb_link_names.proofs.PlacesLemmas.{Searches, left_of}
use Rattle.pb_link_names.proofs.places.Places.first.Given as goal

abbrev pub invariant-loop-next : goal.invariant-loop-next
invariant-loop-next l = Searches l.want (sees_if l.everywhere l.sight) l.name (map declaration_view l.row) l.next

abbrev pub decreases-loop-next : goal.decreases-loop-next
decreases-loop-next l = left_of (map declaration_view l.row) l.next
