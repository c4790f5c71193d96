use Rattle.std.proofs.Common.{◌≡◌, map, drop, string_bytes}
use Rattle.pb_compat.specs.Scalars.{holds_values}
use Rattle.pb_compat.proofs.scalars.holds_values.Given as goal

abbrev pub invariant-loop-value : goal.invariant-loop-value
invariant-loop-value l =
    holds_values l.new l.kind (map (λ v. (string_bytes v.0, v.1)) l.values) ≡ holds_values l.new l.kind (map (λ v. (string_bytes v.0, v.1)) (drop l.value-index l.values))
