-- A text of hexadecimal, blank by blank and pair by pair.
use Rattle.std.proofs.Common.{◌≡◌, ℕ, ◌+◌, ◌*◌, ◌<◌, List, [], ◌∷◌, ◌++◌, length, get_or, drop, Option, Some, None, Bool, true, false, refl, sym, ap, ◌∙◌, append_assoc, append-nil, arith}
use Rattle.std.specs.Prelude.{Result, Ok, Err}
use Rattle.std.proofs.lemmas.List.{drop_more}
use Rattle.hex.specs.Hex.{hex_digit_value}
use Rattle.pbtool_encodings.specs.Blanks.{is_blank}
use Rattle.pbtool_encodings.specs.Hexadecimal.{after, hexadecimal}

pub none_yet : (r : Result (List ℕ) ℕ) → after [] 0 r ≡ r
none_yet (Ok bytes) = refl
none_yet (Err n) = let e : 0 + n ≡ n = omega arith in ap Err e

pub after_after :
    (xs ys : List ℕ) (n m : ℕ) (r : Result (List ℕ) ℕ) → after xs n (after ys m r) ≡ after (xs ++ ys) (n + m) r
after_after xs ys n m (Ok bytes) = ap Ok (sym (append_assoc xs ys bytes))
after_after xs ys n m (Err k) = let e : n + (m + k) ≡ (n + m) + k = omega arith in ap Err e

nothing_more : (xs : List ℕ) (n m : ℕ) (r : Result (List ℕ) ℕ) → after xs n (after [] m r) ≡ after xs (n + m) r
nothing_more xs n m (Ok bytes) = refl
nothing_more xs n m (Err k) = let e : n + (m + k) ≡ (n + m) + k = omega arith in ap Err e

blank_first : (c : ℕ) (rest : List ℕ) → is_blank c ≡ true → hexadecimal (c ∷ rest) ≡ after [] 1 (hexadecimal rest)
blank_first c [] blank = rw blank refl
blank_first c (d ∷ rest) blank = rw blank refl

no_digit_first : (c : ℕ) (rest : List ℕ) → is_blank c ≡ false → hex_digit_value c ≡ None → hexadecimal (c ∷ rest) ≡ Err 0
no_digit_first c [] other none = rw (other, none) refl
no_digit_first c (d ∷ rest) other none = rw (other, none) refl

module _ (text : List ℕ) (bytes : List ℕ) (at : ℕ) (known : hexadecimal text ≡ after bytes at (hexadecimal (drop at text)))
    (within : at < length text) where
  here : drop at text ≡ get_or text at 0 ∷ drop (at + 1) text
  here = drop_more text at 0 within

  pub blank_passed : is_blank (get_or text at 0) ≡ true → hexadecimal text ≡ after bytes (at + 1) (hexadecimal (drop (at + 1) text))
  blank_passed blank =
      known ∙ ap (λ (l : List ℕ). after bytes at (hexadecimal l)) here
      ∙ ap (after bytes at) (blank_first (get_or text at 0) (drop (at + 1) text) blank) ∙ nothing_more bytes at 1 (hexadecimal (drop (at + 1) text))

  pub no_digit : is_blank (get_or text at 0) ≡ false → hex_digit_value (get_or text at 0) ≡ None → hexadecimal text ≡ Err at
  no_digit other none =
      let e : at + 0 ≡ at = omega arith in
      known ∙ ap (λ (l : List ℕ). after bytes at (hexadecimal l)) here
      ∙ ap (after bytes at) (no_digit_first (get_or text at 0) (drop (at + 1) text) other none) ∙ ap Err e

  module _ (other : is_blank (get_or text at 0) ≡ false) (high : ℕ) (first : hex_digit_value (get_or text at 0) ≡ Some high) where
    alone_at_end : (rest : List ℕ) → rest ≡ [] → hexadecimal (get_or text at 0 ∷ rest) ≡ Err 1
    alone_at_end [] none = rw (other, first) refl
    alone_at_end (r ∷ rest) none = absurd (cc)

    -- the text ends after the first digit of a byte
    pub cut_short : drop (at + 1) text ≡ [] → hexadecimal text ≡ Err (at + 1)
    cut_short none =
        known ∙ ap (λ (l : List ℕ). after bytes at (hexadecimal l)) here
        ∙ ap (after bytes at) (alone_at_end (drop (at + 1) text) none)

    module _ (more : at + 1 < length text) where
      both_here : drop at text ≡ get_or text at 0 ∷ get_or text (at + 1) 0 ∷ drop (at + 2) text
      both_here =
          let two : at + 1 + 1 ≡ at + 2 = omega arith in
          here ∙ ap (λ (l : List ℕ). get_or text at 0 ∷ l) (rw two at (drop_more text (at + 1) 0 more))

      second_wrong : hex_digit_value (get_or text (at + 1) 0) ≡ None → hexadecimal (get_or text at 0 ∷ get_or text (at + 1) 0 ∷ drop (at + 2) text) ≡ Err 1
      second_wrong none = rw (other, first, none) refl

      second_right :
          (low : ℕ) → hex_digit_value (get_or text (at + 1) 0) ≡ Some low
          → hexadecimal (get_or text at 0 ∷ get_or text (at + 1) 0 ∷ drop (at + 2) text) ≡ after ((high * 16 + low) ∷ []) 2 (hexadecimal (drop (at + 2) text))
      second_right low some = rw (other, first, some) refl

      pub no_second : hex_digit_value (get_or text (at + 1) 0) ≡ None → hexadecimal text ≡ Err (at + 1)
      no_second none =
          known ∙ ap (λ (l : List ℕ). after bytes at (hexadecimal l)) both_here ∙ ap (after bytes at) (second_wrong none)

      pub pair_passed :
          (low : ℕ) → hex_digit_value (get_or text (at + 1) 0) ≡ Some low
          → hexadecimal text ≡ after (bytes ++ (high * 16 + low) ∷ []) (at + 2) (hexadecimal (drop (at + 2) text))
      pair_passed low some =
          known ∙ ap (λ (l : List ℕ). after bytes at (hexadecimal l)) both_here
          ∙ ap (after bytes at) (second_right low some) ∙ after_after bytes ((high * 16 + low) ∷ []) at 2 (hexadecimal (drop (at + 2) text))

-- all is passed
pub all_passed :
    (text bytes : List ℕ) (at : ℕ) → hexadecimal text ≡ after bytes at (hexadecimal (drop at text)) → drop at text ≡ [] → hexadecimal text ≡ Ok bytes
all_passed text bytes at known none =
    known ∙ ap (λ (l : List ℕ). after bytes at (hexadecimal l)) none ∙ ap Ok (append-nil bytes)
