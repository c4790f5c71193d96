use Rattle.std.proofs.Common.{◌≡◌, false, map, drop, string_bytes}
use Rattle.pb_compat.specs.Scalars.{holds_values}
use Rattle.pb_compat.proofs.samples.number_not_held.Given as goal

abbrev pub invariant-loop-value : goal.invariant-loop-value
invariant-loop-value l = holds_values l.new l.kind (map (λ v. (string_bytes v.0, v.1)) (drop l.value-index l.values)) ≡ false
