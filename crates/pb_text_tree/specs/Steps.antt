-- What is read step by step, from one token to another: a value and the index after it, or the first fault.
use Rattle.std.specs.Prelude.{◌≡◌, ◌⊎◌, ℕ, Bool, true, false, Result, Ok, Err}
use Rattle.pb_text_tree.specs.declared.fault.SyntaxFault.{SyntaxFault}
use Rattle.pb_text_tree.specs.Fault.{out_of_memory}

abbrev pub Read : Type 0 → Type 0
Read A = Result (A × ℕ) SyntaxFault

-- what comes next, where there is no fault yet
abbrev pub After : {A B : Type 0} → Read A → (A → ℕ → Read B → Type 0) → Read B → Type 0
After (Ok x) Next o = Next x.0 x.1 o
After (Err e) Next o = o ≡ Err e

-- first this, and what comes next
abbrev pub Then : {A B : Type 0} → (Read A → Type 0) → (A → ℕ → Read B → Type 0) → Read B → Type 0
Then {A} First Next o = (r : Read A) × First r × After r Next o

-- One step after another, from what was read so far, up to an index where they end.
pub data Repeats {A : Type 0} (Ends : ℕ → Bool) (Step : A → ℕ → Read A → Type 0) : A → ℕ → Read A → Type 0 where
  ends : {x : A} {at : ℕ} {o : Read A} → Ends at ≡ true → o ≡ Ok (x, at) → Repeats Ends Step x at o
  goes : {x : A} {at : ℕ} (y : A) (n : ℕ) {o : Read A} → Ends at ≡ false → Step x at (Ok (y, n)) → Repeats Ends Step y n o → Repeats Ends Step x at o
  fails : {x : A} {at : ℕ} (e : SyntaxFault) {o : Read A} → Ends at ≡ false → Step x at (Err e) → o ≡ Err e → Repeats Ends Step x at o

-- the answer is what is read, as it is seen, or the fault, or that memory ran out
abbrev pub Answers : {X A : Type 0} → (X → A) → (Read A → Type 0) → Result (X × ℕ) SyntaxFault → Type 0
Answers view R (Ok x) = R (Ok (view x.0, x.1))
Answers view R (Err e) = (e ≡ out_of_memory) ⊎ R (Err e)
