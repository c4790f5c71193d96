use Rattle.std.proofs.Common.{◌≡◌, ◌++◌, ◌≤◌, ◌-◌, length, drop, option_map}
use Rattle.pb_json_scalars.specs.Base64.{bytes_of}
use Rattle.pb_json_scalars.proofs.bytes.read_base64.Given as goal

abbrev pub invariant-groups : goal.invariant-groups
invariant-groups l = (l.at ≤ length l.symbols) × (option_map (λ rest. l.bytes.items ++ rest) (bytes_of (drop l.at l.symbols)) ≡ bytes_of l.symbols)

abbrev pub decreases-groups : goal.decreases-groups
decreases-groups l = length l.symbols - l.at
