-- What it is to have one meaning or one fault.
use Rattle.std.specs.Prelude.{◌≡◌, ◌⊎◌}

-- There is a meaning or a fault, never both, and each is the only one.
pub record ExactlyOne {A B : Type 0} (Means : A → Type 0) (Fails : B → Type 0) : Type 0 where
  pub either : ((v : A) × Means v) ⊎ ((f : B) × Fails f)
  pub not_both : (v : A) (f : B) → Means v → Fails f → ⊥
  pub one_meaning : (v w : A) → Means v → Means w → v ≡ w
  pub one_fault : (f g : B) → Fails f → Fails g → f ≡ g
