use Rattle.std.proofs.Common.{◌+◌, ◌*◌, length}
use Rattle.pb_place.proofs.reading.+at.Given as goal

-- the steps that are left, and within a step the way to its value
abbrev pub decreases-at : goal.decreases-at
decreases-at l = 3 * length l.place.now

abbrev pub decreases-at_field : goal.decreases-at_field
decreases-at_field l = 3 * length l.rest.now + 2

abbrev pub decreases-in_list : goal.decreases-in_list
decreases-in_list l = 3 * length l.place.now + 1

abbrev pub decreases-in_map : goal.decreases-in_map
decreases-in_map l = 3 * length l.place.now + 1

abbrev pub decreases-in_value : goal.decreases-in_value
decreases-in_value l = 3 * length l.place.now + 1
