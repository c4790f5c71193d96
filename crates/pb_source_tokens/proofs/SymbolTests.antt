-- Readers of one symbol.
use Rattle.std.proofs.Common.{◌≡◌, ℕ, List, [], ◌∷◌, Bool, true, false, not, refl, ap, sym, ◌∙◌, subst, Option, Some, None, Ok, Err, ◌⊎◌, inl, inr}
use Rattle.std.specs.Str.{bytes_eq}
use Rattle.std.proofs.lemmas.Bool.{false≢true}
use Rattle.std.proofs.lemmas.Slice.Eq.{bytes_eq-Decides}
use Rattle.pb_source_tokens.specs.declared.rule.Rule.{Rule}
use Rattle.pb_source_tokens.specs.Symbols.{Symbol, word, number, text, sign}
use Rattle.pb_source_tokens.specs.Language.{Language, one, Rules}
use Rattle.pb_source_tokens.specs.Readers.Forms.{symbol, plain, or_unexpected, judged, by_rule, is_keyword, is_mark, if_so, tested, keyword_reader, mark_reader}
use Rattle.pb_source_tokens.proofs.ReaderLaws.{Reads, leaves}
use Rattle.pb_source_tokens.proofs.Parts.{Judges, Passing, reads_symbol, reads_as}

pub some_same : {A : Type 0} {v w : A} → Some v ≡ Some w → v ≡ w
some_same h = cc h

-- ---- tests that no rule changes

plain_passes : {A : Type 0} (o : Option A) (v : A) → or_unexpected o ≡ Ok v → o ≡ Some v
plain_passes None v h = absurd (cc h)
plain_passes (Some w) v h = let e : w ≡ v = cc h in ap Some e

unruled : {A : Type 0} (o : Option A) (rules : Rules) (why : Option Rule) → leaves rules why ≡ true → or_unexpected o ≡ Err why → ⊥
unruled None rules None l h = false≢true l
unruled None rules (Some r) l h = cc h
unruled (Some w) rules why l h = cc h

judges_plain : {A : Type 0} (g : Symbol → Option A) (s : Symbol) (v : A) → g s ≡ Some v → Judges (plain g)
judges_plain g s v h = record {
  some = λ rules. (s, v, ap or_unexpected h);
  kept = λ rules s v e. e;
  same = λ rules s why l e. e;
  allowed = λ rules s why l e. absurd (unruled (g s) rules why l e);
}

pub reads_plain : {A : Type 0} {n : ℕ} {e : Symbol → Bool} {R : A → Language} (g : Symbol → Option A) (s : Symbol) (v : A) → g s ≡ Some v
    → ((s : Symbol) (v : A) → g s ≡ Some v → R v (s ∷ [])) → ((v : A) (c : List Symbol) → R v c → (s : Symbol) × (g s ≡ Some v) × (c ≡ s ∷ []))
    → Reads n e (λ rules. R) (symbol (plain g))
reads_plain {A} {n} {e} {R} g s v h to from =
    reads_as n e (Passing (plain g)) (λ rules. R) (symbol (plain g)) (reads_symbol n e (plain g) (judges_plain g s v h))
    (λ rules v c d. subst (R v) (sym d.2) (to d.0 v (plain_passes (g d.0) v d.1)))
    (λ rules v c d. let x = from v c d in (x.0, ap or_unexpected x.1, x.2))

-- ---- tests of words and of signs

tests_so : (b : Bool) (u : Unit {0}) → if_so b ≡ Some u → b ≡ true
tests_so true u h = refl
tests_so false u h = absurd (cc h)

-- one symbol, the only one that passes
pub reads_tested : {n : ℕ} {e : Symbol → Bool} (test : Symbol → Bool) (s : Symbol) → test s ≡ true → ((t : Symbol) → test t ≡ true → t ≡ s) → Reads n e (λ rules u. one s) (tested test)
reads_tested test s h only =
    reads_plain {R = λ u. one s} (λ t. if_so (test t)) s tt (ap if_so h)
    (λ t u e. ap (λ t. t ∷ []) (only t (tests_so (test t) u e)))
    (λ u c d. (s, ap if_so h, d))

pub is_the_word : (w : List ℕ) (s : Symbol) → is_keyword w s ≡ true → s ≡ word w
is_the_word w (word v) h = ap word ((bytes_eq-Decides v w).0 h)
is_the_word w (number v) h = absurd (false≢true h)
is_the_word w (text v) h = absurd (false≢true h)
is_the_word w (sign v) h = absurd (false≢true h)

pub is_the_sign : (w : List ℕ) (s : Symbol) → is_mark w s ≡ true → s ≡ sign w
is_the_sign w (sign v) h = ap sign ((bytes_eq-Decides v w).0 h)
is_the_sign w (number v) h = absurd (false≢true h)
is_the_sign w (text v) h = absurd (false≢true h)
is_the_sign w (word v) h = absurd (false≢true h)

pub same_bytes : (w : List ℕ) → bytes_eq w w ≡ true
same_bytes w = (bytes_eq-Decides w w).1 refl

pub reads_keyword : {n : ℕ} {e : Symbol → Bool} (w : List ℕ) → Reads n e (λ rules u. one (word w)) (keyword_reader w)
reads_keyword w = reads_tested (is_keyword w) (word w) (same_bytes w) (is_the_word w)

pub reads_mark : {n : ℕ} {e : Symbol → Bool} (w : List ℕ) → Reads n e (λ rules u. one (sign w)) (mark_reader w)
reads_mark w = reads_tested (is_mark w) (sign w) (same_bytes w) (is_the_sign w)

-- ---- tests with a rule

-- the symbol keeps the rule, or the rule is left out
abbrev pub Keeps : Rule → Rules → Bool → Type 0
Keeps r rules ok = (ok ≡ true) ⊎ (rules r ≡ false)

module _ {A : Type 0} (r : Rule) where
  kept_by : (o : Option (A × Bool)) (b : Bool) (v : A) → by_rule r true o ≡ Ok v → by_rule r b o ≡ Ok v
  kept_by None b v h = absurd (cc h)
  kept_by (Some (w, true)) b v h = h
  kept_by (Some (w, false)) b v h = absurd (cc h)

  same_by : (o : Option (A × Bool)) (rules : Rules) (why : Option Rule) → leaves rules why ≡ false → by_rule r true o ≡ Err why → by_rule r (rules r) o ≡ Err why
  same_by None rules why l h = h
  same_by (Some (w, true)) rules why l h = absurd (cc h)
  same_by (Some (w, false)) rules why l h =
      let e : Some r ≡ why = cc h in
      let held : rules r ≡ true = holds (rules r) (ap (leaves rules) e ∙ l) in
      ap (λ b. by_rule r b (Some (w, false))) held ∙ ap Err e
    where
      holds : (b : Bool) → not b ≡ false → b ≡ true
      holds true h = refl
      holds false h = absurd (false≢true (sym h))

  allowed_by : (o : Option (A × Bool)) (rules : Rules) (why : Option Rule) → leaves rules why ≡ true → by_rule r true o ≡ Err why → (v : A) × (by_rule r (rules r) o ≡ Ok v)
  allowed_by None rules why l h = let e : None ≡ why = cc h in absurd (false≢true (ap (leaves rules) e ∙ l))
  allowed_by (Some (w, true)) rules why l h = absurd (cc h)
  allowed_by (Some (w, false)) rules why l h =
      let e : Some r ≡ why = cc h in
      let left : rules r ≡ false = fails (rules r) (ap (leaves rules) e ∙ l) in
      (w, ap (λ b. by_rule r b (Some (w, false))) left)
    where
      fails : (b : Bool) → not b ≡ true → b ≡ false
      fails true h = absurd (false≢true h)
      fails false h = refl

  passes_by : (o : Option (A × Bool)) (b : Bool) (v : A) → by_rule r b o ≡ Ok v → (ok : Bool) × (o ≡ Some (v, ok)) × ((ok ≡ true) ⊎ (b ≡ false))
  passes_by None b v h = absurd (cc h)
  passes_by (Some (w, true)) b v h = let e : w ≡ v = cc h in (true, ap (λ v. Some (v, true)) e, inl refl)
  passes_by (Some (w, false)) true v h = absurd (cc h)
  passes_by (Some (w, false)) false v h = let e : w ≡ v = cc h in (false, ap (λ v. Some (v, false)) e, inr refl)

  passing_by : (b ok : Bool) (v : A) → (ok ≡ true) ⊎ (b ≡ false) → by_rule r b (Some (v, ok)) ≡ Ok v
  passing_by b true v h = refl
  passing_by true false v (inl h) = absurd (false≢true h)
  passing_by true false v (inr h) = absurd (false≢true (sym h))
  passing_by false false v h = refl

  judges_judged : (g : Symbol → Option (A × Bool)) (s : Symbol) (v : A) → g s ≡ Some (v, true) → Judges (judged r g)
  judges_judged g s v h = record {
    some = λ rules. (s, v, ap (by_rule r (rules r)) h);
    kept = λ rules s v e. kept_by (g s) (rules r) v e;
    same = λ rules s why l e. same_by (g s) rules why l e;
    allowed = λ rules s why l e. allowed_by (g s) rules why l e;
  }

  pub reads_judged : {n : ℕ} {e : Symbol → Bool} {R : Rules → A → Language} (g : Symbol → Option (A × Bool)) (s : Symbol) (v : A) → g s ≡ Some (v, true)
      → ((rules : Rules) (s : Symbol) (v : A) (ok : Bool) → g s ≡ Some (v, ok) → Keeps r rules ok → R rules v (s ∷ []))
      → ((rules : Rules) (v : A) (c : List Symbol) → R rules v c → (s : Symbol) × (ok : Bool) × (g s ≡ Some (v, ok)) × Keeps r rules ok × (c ≡ s ∷ []))
      → Reads n e R (symbol (judged r g))
  reads_judged {n} {e} {R} g s v h to from =
      reads_as n e (Passing (judged r g)) R (symbol (judged r g)) (reads_symbol n e (judged r g) (judges_judged g s v h)) into of
    where
      into : (rules : Rules) (v : A) (c : List Symbol) → Passing (judged r g) rules v c → R rules v c
      into rules v c (s, e, j) = let x = passes_by (g s) (rules r) v e in subst (R rules v) (sym j) (to rules s v x.0 x.1 x.2)

      of : (rules : Rules) (v : A) (c : List Symbol) → R rules v c → Passing (judged r g) rules v c
      of rules v c d = let x = from rules v c d in (x.0, ap (by_rule r (rules r)) x.2 ∙ passing_by (rules r) x.1 v x.3, x.4)
