-- Scopes, from the empty one inwards.
use Rattle.std.specs.Prelude.{ℕ, List, [], ◌∷◌, ◌++◌}
use Rattle.pb_schema.specs.Names.{fronts_from}

-- the scopes around a scope and it itself, from the empty one inwards
abbrev pub scopes_to : List ℕ → List (List ℕ)
scopes_to [] = [] ∷ []
scopes_to (c ∷ cs) = [] ∷ (fronts_from [] (c ∷ cs) ++ (c ∷ cs) ∷ [])
