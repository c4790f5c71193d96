use Rattle.std.proofs.Common.{◌+◌, ◌*◌, length}
use Rattle.pb_place.proofs.walk.Walk.+change.Given as goal

-- the steps that are left, and within a step the way to its value
abbrev pub decreases-change_in : goal.decreases-change_in
decreases-change_in l = 4 * length l.place.now

abbrev pub decreases-change_content : goal.decreases-change_content
decreases-change_content l = 4 * length l.place.now + 3

abbrev pub decreases-change_list : goal.decreases-change_list
decreases-change_list l = 4 * length l.place.now + 2

abbrev pub decreases-change_map : goal.decreases-change_map
decreases-change_map l = 4 * length l.place.now + 2

abbrev pub decreases-change_value : goal.decreases-change_value
decreases-change_value l = 4 * length l.place.now + 1
