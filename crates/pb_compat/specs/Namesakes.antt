-- Message types of the same full name in two pools.
use Rattle.std.specs.Prelude.{ℕ, zero, suc, List, [], ◌++◌, length, Option, option_map}
use Rattle.std.specs.Option.{option_to_list}
use Rattle.pb_schema.specs.Names.{message_names, name_at}
use Rattle.pb_schema.specs.Tables.{place_of}
use Rattle.pb_schema.specs.Types.{Types}

-- the type of the new pool that has the full name of one of the old pool
abbrev pub namesake : Types → Types → ℕ → Option ℕ
namesake old new m = place_of (name_at (message_names old) m) (message_names new)

-- the pair of these two, if there is one
abbrev pub namesake_at : Types → Types → ℕ → List (ℕ × ℕ)
namesake_at old new m = option_to_list (option_map (λ n. (m, n)) (namesake old new m))

-- the pairs of the types of the old pool below an index, in order
abbrev pub namesakes_below : Types → Types → ℕ → List (ℕ × ℕ)
namesakes_below old new zero = []
namesakes_below old new (suc m) = namesakes_below old new m ++ namesake_at old new m

abbrev pub namesakes : Types → Types → List (ℕ × ℕ)
namesakes old new = namesakes_below old new (length old.messages)
