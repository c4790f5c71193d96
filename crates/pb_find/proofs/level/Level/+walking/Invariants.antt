use Rattle.std.proofs.Common.{◌+◌, ◌-◌, ◌*◌, length}
use Rattle.pb_find.specs.Walk.{HasFound}
use Rattle.pb_find.proofs.WalkLemmas.{path_left}
use Rattle.pb_find.proofs.level.Level.+walking.Given as goal

abbrev pub decreases-walk_inside : goal.decreases-walk_inside
decreases-walk_inside l = 4 * path_left l.self.now.target + 3

abbrev pub decreases-walk : goal.decreases-walk
decreases-walk l = 4 * path_left l.self.now.target + 2

abbrev pub decreases-target_found : goal.decreases-target_found
decreases-target_found l = 4 * path_left l.self.now.target + 1

abbrev pub decreases-message_found : goal.decreases-message_found
decreases-message_found l = 4 * path_left l.self.now.target

abbrev pub invariant-walk-records : goal.invariant-walk-records
invariant-walk-records l = HasFound l.self l.before l.at l.here l.found

abbrev pub decreases-walk-records : goal.decreases-walk-records
decreases-walk-records l = length l.self.bytes.now - l.here
