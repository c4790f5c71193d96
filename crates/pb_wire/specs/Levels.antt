-- How L records use levels.
use Rattle.std.specs.Prelude.{◌≡◌, ◌≢◌, ℕ}
use Rattle.pb_wire.specs.Schema.{Reading, same_level}

-- what each L record of this context holds is a level down
abbrev pub UsesLevels : {C : Type 0} → (C → ℕ → Reading C) → C → Type 0
UsesLevels {C} reading c = (k : ℕ) (d : C) → reading c k ≢ same_level d

-- what is read at the level of what holds it holds nothing that is read so
abbrev pub NestsOnce : {C : Type 0} → (C → ℕ → Reading C) → Type 0
NestsOnce {C} reading = (c d : C) (k : ℕ) → reading c k ≡ same_level d → UsesLevels reading d
