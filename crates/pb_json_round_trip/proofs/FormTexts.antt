-- Lengths of time need no escape, and the names of paths are UTF-8.
use Rattle.std.proofs.Common.{◌≡◌, ℕ, suc, ◌+◌, ◌/◌, ◌%◌, ◌<◌, ◌≤◌, Bool, true, false, eqb, List, [], ◌∷◌, ◌++◌, length, get_or, codes, IsUtf8, inl, inr, refl, sym, ap, subst, arith, append-nil, leb-true, le-ltb, lt-ltb, ne_eqb, ℤ, pos, negsuc, FitsSigned, w64, decimal}
use Rattle.std.specs.Prelude.{◌||◌, encode_utf8, int_lt, unsigned_abs}
use Rattle.std.specs.List.{flat_map, list_all}
use Rattle.std.specs.Str.{is_utf8}
use Rattle.std.proofs.lemmas.Bool.{and_parts, cases_Bool, cases_lt}
use Rattle.std.proofs.lemmas.Int.{ints}
use Rattle.std.proofs.lemmas.Str.{IsUtf8-append, IsUtf8-nil, IsUtf8-encode, IsUtf8-from_is_utf8, encode_ascii, inside_one}
use lib.Utf8.{encodes, scalars}
use Rattle.pb_json.specs.JsonNames.{camel_from, camel_letter, cased, lower_camel}
use Rattle.pb_json.specs.Masks.{mask_text}
use Rattle.pb_json.specs.Times.{fraction, is_span, sign, span_text, three_digits}
use Rattle.pb_json_round_trip.specs.Texts.{is_plain}
use Rattle.pb_json_round_trip.proofs.CharacterLaws.{ascii_utf8, byte_utf8}
use Rattle.pb_json_round_trip.proofs.PlainLaws.{digit_plain, joined, natural_plain, raised_ascii}
use Rattle.pb_json_round_trip.proofs.TimeLaws.{span_parts}

-- ---- lengths of time

seconds_plain : (z : ℤ) → FitsSigned w64 z → list_all is_plain (decimal (unsigned_abs z)) ≡ true
seconds_plain (pos n) fits = natural_plain n (omega (arith, ints, fits))
seconds_plain (negsuc n) fits = natural_plain (suc n) (omega (arith, ints, fits))

nanos_small : (s z : ℤ) → is_span s z ≡ true → unsigned_abs z < 1_000_000_000
nanos_small s (pos n) h = let low : n ≤ 999_999_999 = leb-true n 999_999_999 ((span_parts s (pos n) h).nanos_high) in omega (arith, low)
nanos_small s (negsuc n) h = let low : n ≤ 999_999_998 = leb-true n 999_999_998 ((span_parts s (negsuc n) h).nanos_low) in omega (arith, low)

three_plain : (n : ℕ) → n < 1_000 → list_all is_plain (three_digits n) ≡ true
three_plain n small =
    rw (
      digit_plain (48 + n / 100) (omega arith) (omega arith),
      digit_plain (48 + n / 10 % 10) (omega arith) (omega arith),
      digit_plain (48 + n % 10) (omega arith) (omega arith),
    ) refl

fraction_plain : (n : ℕ) → n < 1_000_000_000 → list_all is_plain (fraction n) ≡ true
fraction_plain n small =
    let first = three_plain (n / 1_000_000) (omega (arith, small)) in
    let second = three_plain (n / 1_000 % 1_000) (omega arith) in
    let third = three_plain (n % 1_000) (omega arith) in
    let one : list_all is_plain (codes "." ++ three_digits (n / 1_000_000)) ≡ true = first in
    let two = joined is_plain (codes "." ++ three_digits (n / 1_000_000)) (three_digits (n / 1_000 % 1_000)) one second in
    let three = joined is_plain ((codes "." ++ three_digits (n / 1_000_000)) ++ three_digits (n / 1_000 % 1_000)) (three_digits (n % 1_000)) two third in
    elim (cases_Bool (eqb n 0)) [
      | inl e ↦ rw e refl
      | inr e ↦ elim (cases_Bool (eqb (n % 1_000_000) 0)) [
        | inl f ↦ rw (e, f) one
        | inr f ↦ elim (cases_Bool (eqb (n % 1_000) 0)) [ inl g ↦ rw (e, f, g) two | inr g ↦ rw (e, f, g) three ]
      ]
    ]

sign_plain : (negative : Bool) → list_all is_plain (sign negative) ≡ true
sign_plain true = refl
sign_plain false = refl

pub span_plain : (s n : ℤ) → FitsSigned w64 s → is_span s n ≡ true → list_all is_plain (span_text s n) ≡ true
span_plain s n fits h =
    let negative : Bool = int_lt s (pos 0) || int_lt n (pos 0) in
    let whole = joined is_plain (sign negative) (decimal (unsigned_abs s)) (sign_plain negative) (seconds_plain s fits) in
    let all = joined is_plain (sign negative ++ decimal (unsigned_abs s)) (fraction (unsigned_abs n)) whole (fraction_plain (unsigned_abs n) (nanos_small s n h)) in
    joined is_plain ((sign negative ++ decimal (unsigned_abs s)) ++ fraction (unsigned_abs n)) (codes "s") all refl

-- ---- names of paths

-- no byte of a character beyond ASCII is changed
cased_beyond : (raised : Bool) (b : ℕ) → 128 ≤ b → cased raised b ≡ b
cased_beyond true b big = rw (le-ltb b 97 (omega arith), le-ltb b 123 (omega arith)) refl
cased_beyond false b big = refl

abbrev AreBeyond : List ℕ → Type 0
AreBeyond s = (k : ℕ) → k < length s → 128 ≤ get_or s k 0

later_beyond : (b : ℕ) (bs : List ℕ) → AreBeyond (b ∷ bs) → AreBeyond bs
later_beyond b bs h k below = h (suc k) (omega arith)

camel_more : (bs rest : List ℕ) → AreBeyond bs → camel_from false (bs ++ rest) ≡ bs ++ camel_from false rest
camel_more [] rest h = refl
camel_more (b ∷ bs) rest h =
    let big : 128 ≤ b = h 0 (omega arith) in
    rw (ne_eqb b 95 (λ e. omega (arith, big, e))) (ap (λ (l : List ℕ). b ∷ l) (camel_more bs rest (later_beyond b bs h)))

camel_beyond : (raised : Bool) (b : ℕ) (bs rest : List ℕ) → AreBeyond (b ∷ bs) → camel_from raised ((b ∷ bs) ++ rest) ≡ (b ∷ bs) ++ camel_from false rest
camel_beyond raised b bs rest h =
    let big : 128 ≤ b = h 0 (omega arith) in
    rw (ne_eqb b 95 (λ e. omega (arith, big, e)), cased_beyond raised b big) (ap (λ (l : List ℕ). b ∷ l) (camel_more bs rest (later_beyond b bs h)))

over_character : (raised : Bool) (bs rest : List ℕ) → IsUtf8 bs → AreBeyond bs → ((r : Bool) → IsUtf8 (camel_from r rest)) → IsUtf8 (camel_from raised (bs ++ rest))
over_character raised [] rest is beyond more = more raised
over_character raised (b ∷ bs) rest is beyond more =
    subst IsUtf8 (sym (camel_beyond raised b bs rest beyond)) (IsUtf8-append (b ∷ bs) (camel_from false rest) is (more false))

character_beyond : (c : ℕ) → 128 ≤ c → AreBeyond (encode_utf8 c)
character_beyond c big k below =
    elim (cases_lt (get_or (encode_utf8 c) k 0) 128) [
      | inl low ↦ absurd (let e = inside_one c [] (encode_utf8 c) k (sym (append-nil (encode_utf8 c))) below low in omega arith)
      | inr h ↦ h
    ]

letter_utf8 : (raised : Bool) (c : ℕ) → c < 128 → IsUtf8 (camel_letter raised c)
letter_utf8 raised c small =
    elim (cases_Bool (eqb c 95)) [
      | inl e ↦ rw e IsUtf8-nil
      | inr e ↦ rw e (ascii_utf8 (cased raised c ∷ []) (rw (raised_ascii raised c (lt-ltb c 128 small)) refl))
    ]

letters_utf8 : (cs : List ℕ) → scalars cs ≡ true → (raised : Bool) → IsUtf8 (camel_from raised (encodes cs))
letters_utf8 [] h raised = IsUtf8-nil
letters_utf8 (c ∷ cs) h raised =
    let p = and_parts _ _ h in
    elim (cases_lt c 128) [
      | inl small ↦
          subst (λ (l : List ℕ). IsUtf8 (camel_from raised (l ++ encodes cs))) (sym (encode_ascii c small))
          (IsUtf8-append (camel_letter raised c) (camel_from (eqb c 95) (encodes cs)) (letter_utf8 raised c small) (letters_utf8 cs p.1 (eqb c 95)))
      | inr big ↦ over_character raised (encode_utf8 c) (encodes cs) (IsUtf8-encode c p.0) (character_beyond c big) (letters_utf8 cs p.1)
    ]

camel_utf8 : (s : List ℕ) → IsUtf8 s → IsUtf8 (lower_camel s)
camel_utf8 s (cs, (ok, e)) = subst (λ (l : List ℕ). IsUtf8 (lower_camel l)) e (letters_utf8 cs ok false)

later_utf8 : (ps : List (List ℕ)) → list_all is_utf8 ps ≡ true → IsUtf8 (flat_map (λ p. codes "," ++ lower_camel p) ps)
later_utf8 [] h = IsUtf8-nil
later_utf8 (p ∷ ps) h =
    let both = and_parts (is_utf8 p) (list_all is_utf8 ps) h in
    IsUtf8-append (codes "," ++ lower_camel p) (flat_map (λ q. codes "," ++ lower_camel q) ps)
    (byte_utf8 44 (lower_camel p) (omega arith) (camel_utf8 p (IsUtf8-from_is_utf8 p both.0))) (later_utf8 ps both.1)

pub mask_utf8 : (ps : List (List ℕ)) → list_all is_utf8 ps ≡ true → IsUtf8 (mask_text ps)
mask_utf8 [] h = IsUtf8-nil
mask_utf8 (p ∷ ps) h =
    let both = and_parts (is_utf8 p) (list_all is_utf8 ps) h in
    IsUtf8-append (lower_camel p) (flat_map (λ q. codes "," ++ lower_camel q) ps) (camel_utf8 p (IsUtf8-from_is_utf8 p both.0)) (later_utf8 ps both.1)
