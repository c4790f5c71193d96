use Rattle.std.proofs.Common.{◌≡◌, ◌<◌, ℕ, get_or}
use Rattle.std.specs.Char.{to_ascii_lowercase}
use Rattle.pbtool_hints.proofs.near.shared_prefix.Given as goal

abbrev pub invariant-loop-at : goal.invariant-loop-at
invariant-loop-at l = (k : ℕ) → k < l.at → to_ascii_lowercase (get_or l.left k 0) ≡ to_ascii_lowercase (get_or l.right k 0)
