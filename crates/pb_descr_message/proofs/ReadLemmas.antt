-- What a set's message is refused for.
use Rattle.std.proofs.Common.{◌≡◌, ℕ, List, [], ◌∷◌, Option, Some, None, refl, sym, ap, ◌∙◌}
use Rattle.std.specs.Prelude.{slice_get}
use Rattle.pb_value.specs.Data.{Message}
use Rattle.pb_descr_message.specs.declared.cause.DeclCause.{DeclCause}
use Rattle.pb_descr_message.specs.declared.error.DescrError.{DescrError}
use Rattle.pb_descr_message.specs.declared.error.DescrError.TheVariants.{Fault, Decl, Memory}
use Rattle.pb_descr_message.specs.Causes.{set_causes}
use Rattle.pb_descr_message.specs.Sets.{IsRefusedSet, TellsCause}

pub nothing_first : {X : Type 0} (xs : List X) → slice_get xs 0 ≡ None → xs ≡ []
nothing_first [] h = refl
nothing_first (x ∷ xs) h = absurd (cc)

-- a set that shows no cause is refused for memory alone
pub refused_silent : (set : Message) (e : DescrError) → set_causes set ≡ [] → IsRefusedSet set e → e ≡ Memory
refused_silent set (Fault byte path cause) silent refused = absurd refused
refused_silent set (Decl file cause) silent refused = absurd (let none : slice_get (set_causes set) 0 ≡ None = ap (λ cs. slice_get cs 0) silent in cc)
refused_silent set Memory silent refused = refl

abbrev index_of : Option (ℕ × DeclCause) → ℕ
index_of None = 0
index_of (Some told) = told.0

abbrev cause_of : DeclCause → Option (ℕ × DeclCause) → DeclCause
cause_of c None = c
cause_of c (Some told) = told.1

pub same_cause : (i j : ℕ) (c d : DeclCause) (o : Option (ℕ × DeclCause)) → o ≡ Some (i, c) → o ≡ Some (j, d) → (i ≡ j) × (c ≡ d)
same_cause i j c d o e f = (ap index_of (sym e ∙ f), ap (cause_of c) (sym e ∙ f))

-- one that shows a cause is refused for its first, or for memory
pub refused_told : (set : Message) (e : DescrError) (i : ℕ) (c : DeclCause) → slice_get (set_causes set) 0 ≡ Some (i, c) → IsRefusedSet set e → TellsCause i c e
refused_told set (Fault byte path cause) i c told refused = absurd refused
refused_told set (Decl file cause) i c told refused = same_cause file i cause c (slice_get (set_causes set) 0) refused told
refused_told set Memory i c told refused = tt

pub silent_or_told : (set : Message) (i : ℕ) (c : DeclCause) → set_causes set ≡ [] → slice_get (set_causes set) 0 ≡ Some (i, c) → ⊥
silent_or_told set i c silent told = let none : slice_get (set_causes set) 0 ≡ None = ap (λ cs. slice_get cs 0) silent in cc
