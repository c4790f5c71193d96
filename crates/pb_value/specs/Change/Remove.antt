-- A message's fields without an entry of a map.
use Rattle.std.specs.Prelude.{ℕ, Bool, true, false, Option, Some, None, if◌then◌else◌}
use Rattle.pb_schema.specs.Scalar.{Scalar}
use Rattle.pb_value.specs.Data.{Entries, no_entries, entry, is_same_key, Holding, one, list, map, Fields, get_field, drop_field}
use Rattle.pb_value.specs.Change.Part.{in_map, in_field}

-- the entries without a key
abbrev pub drop_entry : Scalar → Entries → Entries
drop_entry x no_entries = no_entries
drop_entry x (entry y d es) = if is_same_key x y then es else entry y d (drop_entry x es)

abbrev pub is_empty_map : Holding → Bool
is_empty_map (one d) = false
is_empty_map (list ds) = false
is_empty_map (map no_entries) = true
is_empty_map (map (entry x d es)) = false

abbrev pub holds_empty_map : Option Holding → Bool
holds_empty_map None = false
holds_empty_map (Some h) = is_empty_map h

-- the fields without that of number n, where it holds an empty map
abbrev pub drop_empty : ℕ → Fields → Fields
drop_empty n fs = if holds_empty_map (get_field n fs) then drop_field n fs else fs

-- the fields without the entry of a key in the map of number n, and without that map where no entry is left
abbrev pub remove_at : ℕ → Scalar → Fields → Fields
remove_at n x fs = drop_empty n (in_field (in_map (drop_entry x)) n fs)
