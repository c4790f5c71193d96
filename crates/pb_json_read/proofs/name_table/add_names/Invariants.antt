use Rattle.std.proofs.Common.{◌≡◌, ℕ, List, map, take}
use Rattle.std.specs.Option.{option_or}
use Rattle.pb_schema.specs.View.{field_view}
use Rattle.pb_json_read.specs.NameTables.{first_named, name_by, place_in}
use Rattle.pb_json_read.proofs.name_table.add_names.Given as goal

abbrev pub invariant-loop-index : goal.invariant-loop-index
invariant-loop-index l =
    (s : List ℕ) → place_in l.table s
    ≡ option_or (place_in l.initial.table s) (first_named (name_by l.naming l.names l.message.0) (map field_view (take l.index l.fields)) s)
