use Rattle.std.proofs.Common.{◌≡◌, ◌+◌, ◌-◌, ◌≤◌, ◌++◌, [], cond, length, drop, map, option_map, string_bytes, true}
use Rattle.pb_json_scalars.specs.Paths.{between_commas, paths_of}
use Rattle.pb_json_scalars.proofs.masks.read_mask.Given as goal

abbrev pub invariant-names : goal.invariant-names
invariant-names l = record {
  within : l.is_more ≡ true → l.at ≤ length l.characters;
  so_far : option_map (λ rest. map string_bytes l.paths.items ++ rest) (paths_of (cond l.is_more (between_commas (drop l.at l.characters)) []))
      ≡ paths_of (between_commas l.characters);
}

abbrev pub decreases-names : goal.decreases-names
decreases-names l = length l.characters + 1 - l.at
