-- The names that fields are given in JSON (ProtoJSON format, "Field names").
use Rattle.std.specs.Prelude.{ℕ, List, [], Option, ◌==◌, ◌&&◌}
use Rattle.std.specs.Map.{lookup}

-- names that fields are given by the option `json_name`: each with the index of a message type and the number of the field
abbrev pub NamesGiven : Type 0
NamesGiven = List ((ℕ × ℕ) × List ℕ)

abbrev pub none_given : NamesGiven
none_given = []

-- the name that the field of a number is given, in the message type at an index
abbrev pub name_given : NamesGiven → ℕ → ℕ → Option (List ℕ)
name_given names m n = lookup (λ k. (m == k.0) && (n == k.1)) names
