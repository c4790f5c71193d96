use Rattle.std.proofs.Common.{◌≡◌, ◌≤◌, ◌-◌, length, drop}
use Rattle.pbtool_encodings.specs.Hexadecimal.{after, hexadecimal}
use Rattle.pbtool_encodings.proofs.hexadecimal.read_hexadecimal.Given as goal

abbrev pub invariant-pairs : goal.invariant-pairs
invariant-pairs l = (l.at ≤ length l.text) × (hexadecimal l.text ≡ after l.bytes.items l.at (hexadecimal (drop l.at l.text)))

abbrev pub decreases-pairs : goal.decreases-pairs
decreases-pairs l = length l.text - l.at
