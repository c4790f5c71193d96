use Rattle.std.proofs.Common.{◌≤◌, map, length}
use Rattle.pb_link_names.specs.View.{declaration_view}
use Rattle.pb_link_names.specs.Places.{ArePlaces}
use Rattle.pb_link_names.proofs.places.Places.new.Given as goal

abbrev pub invariant-loop-place : goal.invariant-loop-place
invariant-loop-place l = (l.place ≤ length l.row) × ArePlaces (map declaration_view l.row) l.place l.places

abbrev pub decreases-loop-place : goal.decreases-loop-place
decreases-loop-place l = l.place
