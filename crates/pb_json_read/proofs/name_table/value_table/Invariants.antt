use Rattle.std.proofs.Common.{◌≡◌, ℕ, List, map, take, string_bytes}
use Rattle.pb_json_read.specs.NameTables.{first_named, place_in, value_name}
use Rattle.pb_json_read.proofs.name_table.value_table.Given as goal

abbrev pub invariant-loop-index : goal.invariant-loop-index
invariant-loop-index l = (s : List ℕ) → place_in l.table s ≡ first_named value_name (map (λ v. (string_bytes v.0, v.1)) (take l.index l.values)) s
