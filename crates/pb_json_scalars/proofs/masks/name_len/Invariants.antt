use Rattle.std.proofs.Common.{◌≡◌, ◌+◌, drop, not, eqb}
use Rattle.std.specs.List.{prefix_len}
use Rattle.pb_json_scalars.proofs.masks.name_len.Given as goal

abbrev pub invariant-loop-at : goal.invariant-loop-at
invariant-loop-at l = prefix_len (λ c. not (eqb c 44)) l.characters ≡ l.at + prefix_len (λ c. not (eqb c 44)) (drop l.at l.characters)
