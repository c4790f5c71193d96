-- What is known of an optional value.
use Rattle.std.proofs.Common.{◌≡◌, Option, Some, None, IfSome, IsSomeAnd, refl, subst}

pub if_some : {A : Type 0} (o : Option A) (P : A → Type 0) → ((a : A) → o ≡ Some a → P a) → IfSome o P
if_some None P f = tt
if_some (Some a) P f = f a refl

pub at_some : {A : Type 0} (o : Option A) (P : A → Type 0) (a : A) → IfSome o P → o ≡ Some a → P a
at_some None P a h e = absurd (cc)
at_some (Some b) P a h e = let same : b ≡ a = cc in subst P same h

pub some_of : {A : Type 0} (o : Option A) (P : A → Type 0) → IsSomeAnd o P → (a : A) × (o ≡ Some a) × P a
some_of None P h = absurd h
some_of (Some a) P h = (a, refl, h)
