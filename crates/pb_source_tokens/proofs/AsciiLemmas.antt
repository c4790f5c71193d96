-- Tokens begin and end with ASCII bytes, so that their slices of a text may be cut.
use Rattle.std.proofs.Common.{◌≡◌, ℕ, suc, ◌+◌, ◌<◌, ◌≤◌, List, [], ◌∷◌, ◌++◌, length, length-append, get_or, Bool, true, false, ◌&&◌, ◌||◌, not, eqb, leb, leb→le, eqb→eq, T, refl, sym, subst, arith, ◌⊎◌, inl, inr}
use Rattle.std.proofs.Math.Seq.{get_or-append_seam}
use Rattle.std.specs.List.{list_all}
use Rattle.std.specs.Int.{is_in_range}
use Rattle.std.specs.Char.{is_ascii_alphabetic, is_ascii_digit, is_ascii_punctuation}
use Rattle.pb_source_tokens.specs.Tokens.{Spelled, begins_word, continues_word, is_quote, is_sign}
use Rattle.pb_source_tokens.specs.declared.token.TokenKind.{TokenKind}

pub or_cases : (a b : Bool) → a || b ≡ true → (a ≡ true) ⊎ (b ≡ true)
or_cases true b h = inl refl
or_cases false b h = inr h

pub and_parts : (a b : Bool) → a && b ≡ true → (a ≡ true) × (b ≡ true)
and_parts true b h = (refl, h)
and_parts false b h = absurd (cc h)

in_range : (low high c : ℕ) → is_in_range low high c ≡ true → c ≤ high
in_range low high c h = leb→le c high (subst T (sym (and_parts (leb low c) (leb c high) h).1) tt)

is_it : (c d : ℕ) → eqb c d ≡ true → c ≡ d
is_it c d h = eqb→eq c d (subst T (sym h) tt)

letter : (c : ℕ) → is_ascii_alphabetic c ≡ true → c < 128
letter c h = elim (or_cases (is_in_range 65 90 c) (is_in_range 97 122 c) h) [ inl e ↦ (let f = in_range 65 90 c e in omega arith) | inr e ↦ (let f = in_range 97 122 c e in omega arith) ]

pub begins_ascii : (c : ℕ) → begins_word c ≡ true → c < 128
begins_ascii c h = elim (or_cases (is_ascii_alphabetic c) (eqb c 95) h) [ inl e ↦ letter c e | inr e ↦ (let f = is_it c 95 e in omega arith) ]

pub digit_ascii : (c : ℕ) → is_ascii_digit c ≡ true → c < 128
digit_ascii c h = let f = in_range 48 57 c h in omega arith

continues_ascii : (c : ℕ) → continues_word c ≡ true → c < 128
continues_ascii c h = elim (or_cases (begins_word c) (is_ascii_digit c) h) [ inl e ↦ begins_ascii c e | inr e ↦ digit_ascii c e ]

pub quote_ascii : (c : ℕ) → is_quote c ≡ true → c < 128
quote_ascii c h = elim (or_cases (eqb c 34) (eqb c 39) h) [ inl e ↦ (let f = is_it c 34 e in omega arith) | inr e ↦ (let f = is_it c 39 e in omega arith) ]

pub sign_ascii : (c : ℕ) → is_sign c ≡ true → c < 128
sign_ascii c h =
    let p = (and_parts (is_ascii_punctuation c) (not (is_quote c || eqb c 95)) h).0 in
    elim (or_cases (is_in_range 33 47 c || is_in_range 58 64 c) (is_in_range 91 96 c || is_in_range 123 126 c) p) [
      | inl e ↦ elim (or_cases (is_in_range 33 47 c) (is_in_range 58 64 c) e) [ inl f ↦ (let g = in_range 33 47 c f in omega arith) | inr f ↦ (let g = in_range 58 64 c f in omega arith) ]
      | inr e ↦ elim (or_cases (is_in_range 91 96 c) (is_in_range 123 126 c) e) [ inl f ↦ (let g = in_range 91 96 c f in omega arith) | inr f ↦ (let g = in_range 123 126 c f in omega arith) ]
    ]

last_ascii : (c : ℕ) (cs : List ℕ) → c < 128 → list_all continues_word cs ≡ true → get_or (c ∷ cs) (length cs) 0 < 128
last_ascii c [] h a = h
last_ascii c (d ∷ ds) h a = let p = and_parts (continues_word d) (list_all continues_word ds) a in last_ascii d ds (continues_ascii d p.0) p.1

-- the first byte and the last one
pub record Ends (t : List ℕ) : Type 0 where
  pub some : 0 < length t
  pub first : get_or t 0 0 < 128
  pub last : (m : ℕ) → suc m ≡ length t → get_or t m 0 < 128

pub spelled_ends : {k : TokenKind} {t rest : List ℕ} → Spelled k t rest → Ends t
spelled_ends (Spelled.a_word {c} {cs} b a s) =
    record { some = omega arith; first = begins_ascii c b; last = λ m e. subst (λ m. get_or (c ∷ cs) m 0 < 128) (back m (length cs) e) (last_ascii c cs (begins_ascii c b) a) }
  where
    back : (m n : ℕ) → suc m ≡ suc n → n ≡ m
    back m n e = omega arith
spelled_ends (Spelled.a_number {c} {cs} b a s) =
    record { some = omega arith; first = digit_ascii c b; last = λ m e. subst (λ m. get_or (c ∷ cs) m 0 < 128) (back m (length cs) e) (last_ascii c cs (digit_ascii c b) a) }
  where
    back : (m n : ℕ) → suc m ≡ suc n → n ≡ m
    back m n e = omega arith
spelled_ends (Spelled.a_text {quote} {cs} q u j) = subst Ends (sym j) (record {
  some = omega arith;
  first = quote_ascii quote q;
  last = λ m e. subst (λ m. get_or (quote ∷ (cs ++ quote ∷ [])) m 0 < 128) (back m (length cs) (length (cs ++ quote ∷ [])) e (length-append cs (quote ∷ [])))
      (subst (λ c. c < 128) (sym (get_or-append_seam cs quote [] 0)) (quote_ascii quote q));
})
  where
    back : (m n l : ℕ) → suc m ≡ suc l → l ≡ n + 1 → suc n ≡ m
    back m n l e f = omega arith
spelled_ends (Spelled.a_sign {c} b s) = record { some = omega arith; first = sign_ascii c b; last = λ m e. subst (λ m. get_or (c ∷ []) m 0 < 128) (back m e) (sign_ascii c b) }
  where
    back : (m : ℕ) → suc m ≡ 1 → 0 ≡ m
    back m e = omega arith
