use Rattle.std.proofs.Common.{◌↔◌, map, drop, string_bytes}
use Rattle.pb_schema.specs.Rules.{AreWords}
use Rattle.pb_schema.proofs.rules.names.values_are_of_words.Given as goal

abbrev pub invariant-loop-value : goal.invariant-loop-value
invariant-loop-value l =
    AreWords (map (λ v. string_bytes v.0) l.values) ↔ AreWords (map (λ v. string_bytes v.0) (drop l.value-index l.values))
