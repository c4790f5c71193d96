-- One thing after another, and one step after another.
use Rattle.std.proofs.Common.{◌≡◌, ℕ, ◌<◌, ◌≤◌, Bool, true, false, Result, Ok, Err, IfOk, inl, inr, refl, sym, ap, ◌∙◌, subst, arith}
use Rattle.std.specs.Prelude.{◌⊎◌}
use Rattle.pb_text_tree.specs.Fault.{out_of_memory}
use Rattle.pb_text_tree.specs.Grammar.{Choose}
use Rattle.pb_text_tree.specs.Steps.{Answers, Read, After, Then, Repeats}
use Rattle.pb_text_tree.specs.declared.fault.SyntaxFault.{SyntaxFault}

pub then_ok : {A B : Type 0} (First : Read A → Type 0) (Next : A → ℕ → Read B → Type 0) (x : A) (n : ℕ) (o : Read B) → First (Ok (x, n)) → Next x n o → Then First Next o
then_ok First Next x n o f h = (Ok (x, n), f, h)

pub then_err : {A B : Type 0} (First : Read A → Type 0) (Next : A → ℕ → Read B → Type 0) (e : SyntaxFault) → First (Err e) → Then First Next (Err e)
then_err First Next e f = (Err e, f, refl)

pub or_weaker : {P Q : Type 0} {e : SyntaxFault} → (P → Q) → (e ≡ out_of_memory) ⊎ P → (e ≡ out_of_memory) ⊎ Q
or_weaker f (inl m) = inl m
or_weaker f (inr p) = inr (f p)

-- what a fault of the first part is of the whole
pub then_answers_err : {A B : Type 0} (First : Read A → Type 0) (Next : A → ℕ → Read B → Type 0) (e : SyntaxFault) → (e ≡ out_of_memory) ⊎ First (Err e)
    → (e ≡ out_of_memory) ⊎ Then First Next (Err e)
then_answers_err First Next e h = or_weaker (then_err First Next e) h

-- what comes next, after what was read first
pub then_answers : {X A B : Type 0} (view : X → B) (First : Read A → Type 0) (Next : A → ℕ → Read B → Type 0) (x : A) (n : ℕ) (r : Result (X × ℕ) SyntaxFault) → First (Ok (x, n))
    → Answers view (Next x n) r → Answers view (Then First Next) r
then_answers view First Next x n (Ok y) f h = then_ok First Next x n _ f h
then_answers view First Next x n (Err e) f h = or_weaker (then_ok First Next x n (Err e) f) h

pub choose_true : {A : Type 0} (b : Bool) (This That : Read A → Type 0) (o : Read A) → b ≡ true → This o → Choose b This That o
choose_true b This That o e h = rw e h

pub choose_false : {A : Type 0} (b : Bool) (This That : Read A → Type 0) (o : Read A) → b ≡ false → That o → Choose b This That o
choose_false b This That o e h = rw e h

pub answers_true : {X A : Type 0} (view : X → A) (b : Bool) (This That : Read A → Type 0) (r : Result (X × ℕ) SyntaxFault) → b ≡ true → Answers view This r
    → Answers view (Choose b This That) r
answers_true view b This That r e h = rw e h

pub answers_false : {X A : Type 0} (view : X → A) (b : Bool) (This That : Read A → Type 0) (r : Result (X × ℕ) SyntaxFault) → b ≡ false → Answers view That r
    → Answers view (Choose b This That) r
answers_false view b This That r e h = rw e h

-- ---- steps

-- what was read from the first index on goes on here
abbrev pub Reaches : {A : Type 0} → (ℕ → Bool) → (A → ℕ → Read A → Type 0) → A → ℕ → A → ℕ → Type 0
Reaches {A} Ends Step first from x at = (o : Read A) → Repeats Ends Step x at o → Repeats Ends Step first from o

pub reach_on : {A : Type 0} (Ends : ℕ → Bool) (Step : A → ℕ → Read A → Type 0) (first : A) (from : ℕ) (x : A) (at : ℕ) (y : A) (n : ℕ) → Reaches Ends Step first from x at
    → Ends at ≡ false → Step x at (Ok (y, n)) → Reaches Ends Step first from y n
reach_on Ends Step first from x at y n f e s o h = f o (Repeats.goes y n e s h)

pub reach_ends : {A : Type 0} (Ends : ℕ → Bool) (Step : A → ℕ → Read A → Type 0) (first : A) (from : ℕ) (x : A) (at : ℕ) → Reaches Ends Step first from x at → Ends at ≡ true
    → Repeats Ends Step first from (Ok (x, at))
reach_ends Ends Step first from x at f e = f (Ok (x, at)) (Repeats.ends e refl)

pub reach_fails : {A : Type 0} (Ends : ℕ → Bool) (Step : A → ℕ → Read A → Type 0) (first : A) (from : ℕ) (x : A) (at : ℕ) (e : SyntaxFault)
    → Reaches Ends Step first from x at → Ends at ≡ false → Step x at (Err e) → Repeats Ends Step first from (Err e)
reach_fails Ends Step first from x at e f k s = f (Err e) (Repeats.fails e k s refl)

-- ---- there is one answer

abbrev pub Single : {A : Type 0} → (Read A → Type 0) → Type 0
Single {A} R = (o p : Read A) → R o → R p → o ≡ p

pub is_single : {A : Type 0} (v : Read A) → Single (λ r. r ≡ v)
is_single v o p g h = g ∙ sym h

after_single : {A B : Type 0} (r : Read A) (Next : A → ℕ → Read B → Type 0) → ((x : A) (n : ℕ) → Single (Next x n)) → Single (After r Next)
after_single (Ok x) Next next o p g h = next x.0 x.1 o p g h
after_single (Err e) Next next o p g h = g ∙ sym h

pub then_single : {A B : Type 0} (First : Read A → Type 0) (Next : A → ℕ → Read B → Type 0) → Single First → ((x : A) (n : ℕ) → Single (Next x n)) → Single (Then First Next)
then_single First Next first next o p (r, f, h) (s, g, k) = after_single r Next next o p h (subst (λ t. After t Next p) (sym (first r s f g)) k)

pub choose_single : {A : Type 0} (b : Bool) (This That : Read A → Type 0) → Single This → Single That → Single (Choose b This That)
choose_single true This That this that o p g h = this o p g h
choose_single false This That this that o p g h = that o p g h

-- two answers that are equal have equal parts
pub same_answer : {A : Type 0} (p q : A × ℕ) (o r : Read A) → o ≡ Ok p → r ≡ Ok q → o ≡ r → p ≡ q
same_answer p q o r e f g = cc (e, f, g)

repeats_once : {A : Type 0} {Ends : ℕ → Bool} {Step : A → ℕ → Read A → Type 0} {x : A} {at : ℕ} {o p : Read A} → ((x : A) (n : ℕ) → Single (Step x n))
    → Repeats Ends Step x at o → Repeats Ends Step x at p → o ≡ p
repeats_once step (Repeats.ends e f) (Repeats.ends g h) = f ∙ sym h
repeats_once step (Repeats.ends e f) (Repeats.goes y n g s h) = absurd (cc (e, g))
repeats_once step (Repeats.ends e f) (Repeats.fails k g s h) = absurd (cc (e, g))
repeats_once step (Repeats.goes y n e s f) (Repeats.ends g h) = absurd (cc (e, g))
repeats_once {A} {Ends} {Step} {x} {at} {o} {p} step (Repeats.goes y n e s f) (Repeats.goes z m g t h) =
    let q = step x at (Ok (y, n)) (Ok (z, m)) s t in
    let both = same_answer (y, n) (z, m) (Ok (y, n)) (Ok (z, m)) refl refl q in
    let same : y ≡ z = ap (λ k. k.0) both in
    let there : n ≡ m = ap (λ k. k.1) both in
    repeats_once step f (subst (λ w. Repeats Ends Step w n p) (sym same) (subst (λ k. Repeats Ends Step z k p) (sym there) h))
repeats_once {A} {Ends} {Step} {x} {at} step (Repeats.goes y n e s f) (Repeats.fails k g t h) = let q = step x at (Ok (y, n)) (Err k) s t in absurd (cc q)
repeats_once step (Repeats.fails k e s f) (Repeats.ends g h) = absurd (cc (e, g))
repeats_once {A} {Ends} {Step} {x} {at} step (Repeats.fails k e s f) (Repeats.goes y n g t h) = let q = step x at (Err k) (Ok (y, n)) s t in absurd (cc q)
repeats_once {A} {Ends} {Step} {x} {at} step (Repeats.fails k e s f) (Repeats.fails j g t h) =
    let q = step x at (Err k) (Err j) s t in
    let same : k ≡ j = cc q in
    f ∙ ap (λ i. Err i) same ∙ sym h

pub repeats_single : {A : Type 0} (Ends : ℕ → Bool) (Step : A → ℕ → Read A → Type 0) (x : A) (at : ℕ) → ((x : A) (n : ℕ) → Single (Step x n)) → Single (Repeats Ends Step x at)
repeats_single Ends Step x at step o p g h = repeats_once step g h

-- ---- indexes

-- an answer that is further on than an index is further on than one before it
pub further : {X : Type 0} (r : Result (X × ℕ) SyntaxFault) (a b n : ℕ) → a ≤ b → IfOk r (λ x. (b < x.1) × (x.1 ≤ n)) → IfOk r (λ x. (a < x.1) × (x.1 ≤ n))
further (Ok x) a b n l h = (let p = h.0 in omega arith, h.1)
further (Err e) a b n l h = h

pub further_than : {X : Type 0} (r : Result (X × ℕ) SyntaxFault) (a b n : ℕ) → a < b → IfOk r (λ x. (b ≤ x.1) × (x.1 ≤ n)) → IfOk r (λ x. (a < x.1) × (x.1 ≤ n))
further_than (Ok x) a b n l h = (let p = h.0 in omega arith, h.1)
further_than (Err e) a b n l h = h
