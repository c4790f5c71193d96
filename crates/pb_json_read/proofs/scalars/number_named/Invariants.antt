use Rattle.std.proofs.Common.{◌≡◌, map, drop, string_bytes}
use Rattle.pb_json_read.specs.Scalars.{number_named}
use Rattle.pb_json_read.proofs.scalars.number_named.Given as goal

abbrev pub invariant-loop-value : goal.invariant-loop-value
invariant-loop-value l =
    number_named l.name (map (λ v. (string_bytes v.0, v.1)) l.values) ≡ number_named l.name (map (λ v. (string_bytes v.0, v.1)) (drop l.value-index l.values))
