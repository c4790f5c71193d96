-- Messages that show that a difference between two types breaks reading.
use Rattle.std.specs.Prelude.{◌≡◌, ℕ, List, [], ◌∷◌, Bool, true, slice_get, IsSomeAnd}
use Rattle.pb_schema.specs.Types.{Types}
use Rattle.pb_value.specs.Dynamic.{Dynamic}
use Rattle.pb_compat.specs.Agrees.{break_among}
use Rattle.pb_compat.specs.Fields.{differences_at}
use Rattle.pb_compat.specs.Pairs.{types_of, IsWithinFields}
use Rattle.pb_compat.specs.Witness.{IsWitness}
use Rattle.pb_compat.specs.declared.difference.ComparedTypes.{ComparedTypes}
use Rattle.pb_c.specs.declared.compat.DifferenceReport.{DifferenceReport}

-- the types of a difference
abbrev pub pair_of : DifferenceReport → ℕ × ℕ
pair_of d = (d.old_type, d.new_type)

-- they are the pair at an index of a comparison
abbrev pub IsPairAt : List ComparedTypes → ℕ → DifferenceReport → Type 0
IsPairAt cs i d = IsSomeAnd (slice_get cs i) (λ c. types_of c ≡ pair_of d)

-- something at its field breaks
abbrev pub breaks_at : Types → Types → DifferenceReport → Bool
breaks_at old new d = break_among (differences_at old new d.old_type d.new_type d.number)

-- at most 99 fields, one in another, lead from the types m and n to those of the difference
abbrev pub IsNear : Types → Types → ℕ → ℕ → DifferenceReport → Type 0
IsNear old new m n d = IsWithinFields old new ((m, n) ∷ []) 99 (pair_of d)

-- The field breaks, few fields lead there, and this message of the old type m shows that the new type n does not read all messages of it.
pub record IsShown (old new : Types) (m n : ℕ) (d : DifferenceReport) (w : Dynamic) : Type 0 where
  pub breaks : breaks_at old new d ≡ true
  pub near : IsNear old new m n d
  pub pool : w.pool ≡ old
  pub typed : w.kind ≡ m
  pub witness : IsWitness old new m n w.body

-- nothing breaks at the field, or the types of the difference are not reached, or by more fields alone
abbrev pub IsUnshown : Types → Types → ℕ → ℕ → DifferenceReport → Type 0
IsUnshown old new m n d = ¬ ((breaks_at old new d ≡ true) × IsNear old new m n d)
