-- What the code finds at the front of bytes is a blank, a comment or a token there.
use Rattle.std.proofs.Common.{◌≡◌, ◌≢◌, ℕ, zero, suc, ◌+◌, ◌<◌, ◌≤◌, List, [], ◌∷◌, ◌++◌, ◌-◌, length, take, drop, get_or, Bool, true, false, refl, ap, sym, ◌∙◌, subst, append_assoc, length-append, arith, ◌⊎◌, inl, inr, take-append-drop, ◌||◌, eqb}
use Rattle.std.proofs.lemmas.List.{length-take-le, take_all}
use Rattle.std.specs.List.{list_all}
use Rattle.std.specs.Char.{is_ascii_digit}
use Rattle.std.specs.Prelude.{slice_index}
use Rattle.pb_source_tokens.specs.Tokens.{Spelled, Comment, FaultHere, Stops, begins_word, continues_word, goes_on_line, is_blank, is_sign, is_quote, begins_comment, has_close}
use Rattle.pb_source_tokens.specs.Lexing.{IsGap, IsTokenAt}
use Rattle.pb_source_tokens.specs.declared.token.TokenKind.TheVariants.{Word, Number, Sign}
use Rattle.pb_source_tokens.specs.declared.fault.SourceCause.TheVariants.{BadToken, OpenComment}

first_size : (n : ℕ) (c : ℕ) (cs : List ℕ) → n ≤ length cs → length (c ∷ take n cs) ≡ 1 + n
first_size n c cs l = let e = length-take-le n cs l in omega arith

-- what `&bs[1..]` is
pub tail : (bs : List ℕ) → take (length bs - 1) (drop 1 bs) ≡ drop 1 bs
tail [] = refl
tail (c ∷ cs) = take_all (suc (length cs) - 1) cs (omega arith)

pub blank_piece : (bs : List ℕ) → 0 < length bs → is_blank (slice_index bs 0) ≡ true → IsGap 1 bs
blank_piece [] l h = absurd (omega arith)
blank_piece (c ∷ cs) l h = inl (refl, c, cs, refl, h)

pub word_piece : (bs : List ℕ) (n : ℕ) → 0 < length bs → begins_word (slice_index bs 0) ≡ true → n ≤ length (drop 1 bs) → list_all continues_word (take n (drop 1 bs)) ≡ true
    → Stops continues_word (drop n (drop 1 bs)) → (0 < 1 + n) × (1 + n ≤ length bs) × IsTokenAt Word (1 + n) bs
word_piece [] n l h k p s = absurd (omega arith)
word_piece (c ∷ cs) n l h k p s =
    (omega arith, omega arith, (c ∷ take n cs, drop n cs, ap (λ r. c ∷ r) (sym (take-append-drop n cs)), first_size n c cs k, Spelled.a_word h p s))

pub number_piece : (bs : List ℕ) (n : ℕ) → 0 < length bs → is_ascii_digit (slice_index bs 0) ≡ true → n ≤ length (drop 1 bs) → list_all continues_word (take n (drop 1 bs)) ≡ true
    → Stops continues_word (drop n (drop 1 bs)) → (0 < 1 + n) × (1 + n ≤ length bs) × IsTokenAt Number (1 + n) bs
number_piece [] n l h k p s = absurd (omega arith)
number_piece (c ∷ cs) n l h k p s =
    (omega arith, omega arith, (c ∷ take n cs, drop n cs, ap (λ r. c ∷ r) (sym (take-append-drop n cs)), first_size n c cs k, Spelled.a_number h p s))

pub sign_piece : (bs : List ℕ) → 0 < length bs → is_sign (slice_index bs 0) ≡ true → (slice_index bs 0 ≢ 47) ⊎ Stops begins_comment (drop 1 bs) → (0 < 1) × (1 ≤ length bs) × IsTokenAt Sign 1 bs
sign_piece [] l h s = absurd (omega arith)
sign_piece (c ∷ cs) l h s = (omega arith, omega arith, (c ∷ [], cs, refl, refl, Spelled.a_sign h s))

pub bad_piece : (bs : List ℕ) → 0 < length bs → is_blank (slice_index bs 0) ≡ false → begins_word (slice_index bs 0) ≡ false → is_ascii_digit (slice_index bs 0) ≡ false
    → is_quote (slice_index bs 0) ≡ false → is_sign (slice_index bs 0) ≡ false → (x : ℕ) → FaultHere x bs (x + 0) BadToken
bad_piece [] l a b c d e x = absurd (omega arith)
bad_piece (h ∷ t) l a b c d e x = subst (λ y. FaultHere x (h ∷ t) y BadToken) (omega arith) (FaultHere.bad_byte a (neither (begins_word h) (is_ascii_digit h) b c) d e)
  where
    neither : (u v : Bool) → u ≡ false → v ≡ false → u || v ≡ false
    neither true v p q = absurd (cc p)
    neither false v p q = q

pub slash_gap : (bs : List ℕ) (n : ℕ) → 0 < length bs → slice_index bs 0 ≡ 47 → (n ≤ length (drop 1 bs)) × IsGap (1 + n) (47 ∷ drop 1 bs) → (0 < 1 + n) × (1 + n ≤ length bs) × IsGap (1 + n) bs
slash_gap [] n l h g = absurd (omega arith)
slash_gap (c ∷ cs) n l h g = let k = g.0 in (omega arith, omega arith, subst (λ c. IsGap (1 + n) (c ∷ cs)) (sym h) g.1)

pub slash_fault : (bs : List ℕ) (y : ℕ) (w : _) → 0 < length bs → slice_index bs 0 ≡ 47 → ((x : ℕ) → FaultHere x (47 ∷ drop 1 bs) (x + y) w) → (x : ℕ) → FaultHere x bs (x + y) w
slash_fault [] y w l h f x = absurd (omega arith)
slash_fault (c ∷ cs) y w l h f x = subst (λ c. FaultHere x (c ∷ cs) (x + y) w) (sym h) (f x)

-- ---- comments

pub line_gap : (after : List ℕ) (n : ℕ) → 0 < length after → slice_index after 0 ≡ 47 → n ≤ length (drop 1 after) → list_all goes_on_line (take n (drop 1 after)) ≡ true
    → Stops goes_on_line (drop n (drop 1 after)) → (1 + n ≤ length after) × IsGap (1 + (1 + n)) (47 ∷ after)
line_gap [] n l h k p s = absurd (omega arith)
line_gap (c ∷ cs) n l h k p s = (
  omega arith,
  inr (
    47 ∷ 47 ∷ take n cs,
    drop n cs,
    ap (λ c. 47 ∷ c ∷ cs) h ∙ ap (λ r. 47 ∷ 47 ∷ r) (sym (take-append-drop n cs)),
    (let e = length-take-le n cs k in size (length (take n cs)) n e),
    Comment.to_line_end (take n cs) (drop n cs) p s,
  ),
)
  where
    size : (a n : ℕ) → a ≡ n → suc (suc a) ≡ 1 + (1 + n)
    size a n e = omega arith

two_from : (bs : List ℕ) (n : ℕ) → suc n < length bs → get_or bs n 0 ≡ 42 → get_or bs (suc n) 0 ≡ 47 → bs ≡ take n bs ++ 42 ∷ 47 ∷ drop (suc (suc n)) bs
two_from [] n l h k = absurd (omega arith)
two_from (c ∷ []) n l h k = absurd (omega arith)
two_from (c ∷ d ∷ cs) zero l h k = ap (λ x. x ∷ d ∷ cs) h ∙ ap (λ x. 42 ∷ x ∷ cs) k
two_from (c ∷ d ∷ cs) (suc n) l h k = ap (λ r. c ∷ r) (two_from (d ∷ cs) n (omega arith) h k)

one_from : (bs : List ℕ) (n : ℕ) → n < length bs → get_or bs n 0 ≡ 42 → take (suc n) bs ≡ take n bs ++ 42 ∷ []
one_from [] n l h = absurd (omega arith)
one_from (c ∷ cs) zero l h = ap (λ x. x ∷ []) h
one_from (c ∷ cs) (suc n) l h = ap (λ r. c ∷ r) (one_from cs n (omega arith) h)

next_is : (n : ℕ) → n + 1 ≡ suc n
next_is n = omega arith

second_is : (n : ℕ) → n + 2 ≡ suc (suc n)
second_is n = omega arith

two_at : (bs : List ℕ) (n : ℕ) → n + 1 < length bs → slice_index bs n ≡ 42 → slice_index bs (n + 1) ≡ 47 → bs ≡ take n bs ++ 42 ∷ 47 ∷ drop (n + 2) bs
two_at bs n l h k = subst (λ m. bs ≡ take n bs ++ 42 ∷ 47 ∷ drop m bs) (sym (second_is n)) (two_from bs n (omega arith) h (subst (λ m. get_or bs m 0 ≡ 47) (next_is n) k))

one_more : (bs : List ℕ) (n : ℕ) → n < length bs → slice_index bs n ≡ 42 → take (n + 1) bs ≡ take n bs ++ 42 ∷ []
one_more bs n l h = subst (λ m. take m bs ≡ take n bs ++ 42 ∷ []) (sym (next_is n)) (one_from bs n l h)

pub closed_gap : (after : List ℕ) (n : ℕ) → 0 < length after → slice_index after 0 ≡ 42 → n + 1 < length (drop 1 after) → slice_index (drop 1 after) n ≡ 42 → slice_index (drop 1 after) (n + 1) ≡ 47
    → has_close (take (n + 1) (drop 1 after)) ≡ false → (n + 3 ≤ length after) × IsGap (1 + (n + 3)) (47 ∷ after)
closed_gap [] n l h k a b f = absurd (omega arith)
closed_gap (c ∷ cs) n l h k a b f = (
  omega arith,
  inr (
    47 ∷ 42 ∷ take n cs ++ 42 ∷ 47 ∷ [],
    drop (n + 2) cs,
    ap (λ c. 47 ∷ c ∷ cs) h ∙ ap (λ r. 47 ∷ 42 ∷ r) (two_at cs n k a b ∙ sym (append_assoc (take n cs) (42 ∷ 47 ∷ []) (drop (n + 2) cs))),
    (let e = length-take-le n cs (omega arith) in let d = length-append (take n cs) (42 ∷ 47 ∷ []) in size (length (take n cs ++ 42 ∷ 47 ∷ [])) (length (take n cs)) n e d),
    Comment.to_close (take n cs) (drop (n + 2) cs) (subst (λ r. has_close r ≡ false) (one_more cs n (omega arith) a) f),
  ),
)
  where
    size : (t a n : ℕ) → a ≡ n → t ≡ a + 2 → suc (suc t) ≡ 1 + (n + 3)
    size t a n e d = omega arith

pub open_there : (after : List ℕ) → 0 < length after → slice_index after 0 ≡ 42 → has_close (drop 1 after) ≡ false → (x : ℕ) → FaultHere x (47 ∷ after) (x + 0) OpenComment
open_there [] l h f x = absurd (omega arith)
open_there (c ∷ cs) l h f x = subst (λ y. FaultHere x (47 ∷ c ∷ cs) y OpenComment) (omega arith) (subst (λ c. FaultHere x (47 ∷ c ∷ cs) x OpenComment) (sym h) (FaultHere.open_comment f))

pub no_comment : (after : List ℕ) → 0 < length after → (slice_index after 0 ≡ 47 → ⊥) → (slice_index after 0 ≡ 42 → ⊥) → Stops begins_comment after
no_comment [] l a b = tt
no_comment (c ∷ cs) l a b = neither (eqb c 47) (eqb c 42) (λ e. a (eq c 47 e)) (λ e. b (eq c 42 e))
  where
    eq : (c d : ℕ) → eqb c d ≡ true → c ≡ d
    eq c d e = Rattle.std.proofs.Common.eqb→eq c d (subst Rattle.std.proofs.Common.T (sym e) tt)

    neither : (u v : Bool) → (u ≡ true → ⊥) → (v ≡ true → ⊥) → u || v ≡ false
    neither true v p q = absurd (p refl)
    neither false true p q = absurd (q refl)
    neither false false p q = refl

pub some_bytes : (bs : List ℕ) → false ≡ eqb (length bs) 0 → 0 < length bs
some_bytes [] h = absurd (cc h)
some_bytes (c ∷ cs) h = omega arith
