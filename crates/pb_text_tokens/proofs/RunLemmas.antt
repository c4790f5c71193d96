-- Loops over bytes that pass a test.
use Rattle.std.proofs.Common.{◌≡◌, ℕ, suc, ◌+◌, ◌<◌, ◌≤◌, List, [], ◌∷◌, length, drop, get_or, Bool, true, false, refl, ap, sym, ◌∙◌, arith, drop_of_length-le}
use Rattle.std.proofs.lemmas.List.{drop_more}
use Rattle.pb_text_tokens.specs.Characters.{run_len}
use Rattle.pb_text_tokens.specs.Numbers.{goes_on, is_letter_e, number_rest}

next : (i n : ℕ) → i + suc n ≡ i + 1 + n
next i n = omega arith

none : (i : ℕ) → i + 0 ≡ i
none i = omega arith

-- one byte more
pub run_on : (test : ℕ → Bool) (bs : List ℕ) (i : ℕ) → i < length bs → test (get_or bs i 0) ≡ true → run_len test bs ≡ i + run_len test (drop i bs)
    → run_len test bs ≡ i + 1 + run_len test (drop (i + 1) bs)
run_on test bs i l h e = e ∙ ap (λ k. i + k) (rw (drop_more bs i 0 l, h) refl) ∙ next i (run_len test (drop (i + 1) bs))

-- the byte that ends it
pub run_stops : (test : ℕ → Bool) (bs : List ℕ) (i : ℕ) → i < length bs → test (get_or bs i 0) ≡ false → run_len test bs ≡ i + run_len test (drop i bs)
    → i ≡ run_len test bs
run_stops test bs i l h e = sym (e ∙ ap (λ k. i + k) (rw (drop_more bs i 0 l, h) refl) ∙ none i)

-- the end
pub run_ends : (test : ℕ → Bool) (bs : List ℕ) (i : ℕ) → length bs ≤ i → run_len test bs ≡ i + run_len test (drop i bs) → i ≡ run_len test bs
run_ends test bs i l e = sym (e ∙ ap (λ k. i + run_len test k) (drop_of_length-le bs l) ∙ none i)

pub run_within : (test : ℕ → Bool) (bs : List ℕ) → run_len test bs ≤ length bs
run_within test [] = omega arith
run_within test (c ∷ cs) = by_test (test c) refl (run_within test cs)
  where
    by_test : (b : Bool) → test c ≡ b → run_len test cs ≤ length cs → run_len test (c ∷ cs) ≤ suc (length cs)
    by_test true e l = rw e (omega arith)
    by_test false e l = rw e (omega arith)

-- the same for numbers, whose test depends on the byte before
pub number_on : (after_e : Bool) (bs : List ℕ) (i all : ℕ) → i < length bs → goes_on after_e (get_or bs i 0) ≡ true → all ≡ i + number_rest after_e (drop i bs)
    → all ≡ i + 1 + number_rest (is_letter_e (get_or bs i 0)) (drop (i + 1) bs)
number_on after_e bs i all l h e = e ∙ ap (λ k. i + k) (rw (drop_more bs i 0 l, h) refl) ∙ next i (number_rest (is_letter_e (get_or bs i 0)) (drop (i + 1) bs))

pub number_stops : (after_e : Bool) (bs : List ℕ) (i all : ℕ) → i < length bs → goes_on after_e (get_or bs i 0) ≡ false → all ≡ i + number_rest after_e (drop i bs) → i ≡ all
number_stops after_e bs i all l h e = sym (e ∙ ap (λ k. i + k) (rw (drop_more bs i 0 l, h) refl) ∙ none i)

pub number_ends : (after_e : Bool) (bs : List ℕ) (i all : ℕ) → length bs ≤ i → all ≡ i + number_rest after_e (drop i bs) → i ≡ all
number_ends after_e bs i all l e = sym (e ∙ ap (λ k. i + number_rest after_e k) (drop_of_length-le bs l) ∙ none i)
