-- What the parts of a string accept is characters, with their meaning.
use Rattle.std.proofs.Common.{◌≡◌, ◌≢◌, ℕ, suc, ◌+◌, ◌*◌, ◌<◌, ◌≤◌, List, [], ◌∷◌, ◌++◌, true, false, ◌==◌, ◌&&◌, Option, Some, None, refl, sym, ap, ◌∙◌, subst, arith, ◌⊎◌, inl, inr}
use Rattle.std.specs.Prelude.{option_map, nat_le, nat_lt, if◌then◌else◌, encode_utf8}
use Rattle.std.proofs.lemmas.Bool.{le-leb}
use Rattle.std.proofs.lemmas.Bool.Decides.{eqb_tells, leb_tells}
use Rattle.std.specs.List.{AllByRecursion, flat_map}
use Rattle.std.specs.Char.{digit_value}
use Rattle.pb_json_text.specs.Grammar.{Character, itself, letter, unit, pair, meaning_of_letter, unit_of, AreHex, IsCharacter, bytes_of_character, meaning_of, Characters, surrogates}
use Rattle.pb_json_text.specs.Loops.Machine.{StringPart, text, backslash, digits0, digits1, digits2, digits3, high, high_backslash, low0, low1, low2, low3}
use Rattle.pb_json_text.specs.Loops.Machine.{StringNext, goes, stops, on_digit, letter_or_stops, unit_next, string_next, is_text}

abbrev pub content_next : StringNext → (StringPart → Option (List ℕ)) → Option (List ℕ)
content_next stops f = None
content_next (goes q e) f = option_map (λ s. e ++ s) (f q)

-- what the bytes mean that are the rest of a string's characters after a part
abbrev pub content_of : StringPart → List ℕ → Option (List ℕ)
content_of part [] = if is_text part then Some [] else None
content_of part (x ∷ xs) = if is_text part && (x == 34) then None else content_next (string_next part x) (λ q. content_of q xs)

-- DIGITS

not_below : (a b : ℕ) → b ≤ a → nat_lt a b ≡ false
not_below a b l = elim (leb_tells (suc a) b) [ inl e ↦ absurd (let s = e.1 in omega arith) | inr e ↦ e.0 ]

pub not_up_to : (a b : ℕ) → b < a → nat_le a b ≡ false
not_up_to a b l = elim (leb_tells a b) [ inl e ↦ absurd (let s = e.1 in omega arith) | inr e ↦ e.0 ]

pub on_digit_there :
    (least most x : ℕ) (f : ℕ → StringNext) → least ≤ digit_value x → digit_value x ≤ most → on_digit least most x f ≡ f (digit_value x)
on_digit_there least most x f a b = rw (le-leb least (digit_value x) a) (rw (le-leb (digit_value x) most b) refl)

on_digit_from :
    (least most x : ℕ) (f : ℕ → StringNext) (g : StringPart → Option (List ℕ)) (s : List ℕ) → content_next (on_digit least most x f) g ≡ Some s
    → (least ≤ digit_value x) × (digit_value x ≤ most) × (content_next (f (digit_value x)) g ≡ Some s)
on_digit_from least most x f g s h =
    elim (leb_tells least (digit_value x)) [
      | inl a ↦ (let h2 = rw a.0 at h in elim (leb_tells (digit_value x) most) [
        | inl b ↦ (a.1, b.1, rw b.0 at h2)
        | inr b ↦ absurd (cc (rw b.0 at h2))
      ])
      | inr a ↦ absurd (cc (rw a.0 at h))
    ]

-- FROM CHARACTERS

abbrev pub most_second : ℕ → ℕ
most_second a = if a == 13 then 11 else 15

pub second_fits : (a b : ℕ) → b < 16 → (a ≡ 13 → b ≤ 11) → b ≤ most_second a
second_fits a b l h =
    elim (eqb_tells a 13) [
      | inl e ↦ rw e.0 (h e.1)
      | inr e ↦ rw e.0 (omega arith)
    ]

four_digits :
    (a b c d : ℕ) (xs : List ℕ) → AreHex a b c d → (digit_value a ≡ 13 → digit_value b ≤ 11)
    → content_of text (92 ∷ 117 ∷ a ∷ b ∷ c ∷ d ∷ xs) ≡ content_next (unit_next (unit_of a b c d)) (λ q. content_of q xs)
four_digits a b c d xs h low =
    rw (on_digit_there 0 15 a (λ v. goes (digits1 v) []) (omega arith) (let k = h.0 in omega arith))
    (rw (on_digit_there 0 (most_second (digit_value a)) b (λ v. goes (digits2 (digit_value a * 16 + v)) []) (omega arith) (second_fits (digit_value a) (digit_value b) h.1 low))
    (rw (on_digit_there 0 15 c (λ v. goes (digits3 ((digit_value a * 16 + digit_value b) * 16 + v)) []) (omega arith) (let k = h.2 in omega arith))
    (rw (on_digit_there 0 15 d (λ v. unit_next (((digit_value a * 16 + digit_value b) * 16 + digit_value c) * 16 + v)) (omega arith) (let k = h.3 in omega arith)) (plain4 (content_next (unit_next (unit_of a b c d)) (λ q. content_of q xs))))))
  where
    plain : (o : Option (List ℕ)) → option_map (λ s. s) o ≡ o
    plain None = refl
    plain (Some s) = refl

    plain4 : (o : Option (List ℕ)) → option_map (λ s. s) (option_map (λ s. s) (option_map (λ s. s) (option_map (λ s. s) (option_map (λ s. s) o)))) ≡ o
    plain4 None = refl
    plain4 (Some s) = refl

unit_alone : (u : ℕ) → (u < 55296) ⊎ (57344 ≤ u) → unit_next u ≡ goes text (encode_utf8 u)
unit_alone u (inl l) = rw (not_up_to 55296 u l) refl
unit_alone u (inr l) =
    elim (leb_tells 55296 u) [
      | inl e ↦ rw e.0 (rw (not_below u 57344 l) refl)
      | inr e ↦ rw e.0 refl
    ]

unit_high : (u : ℕ) → 55296 ≤ u → u < 57344 → unit_next u ≡ goes (high u) []
unit_high u a b = rw (le-leb 55296 u a) (rw (le-leb (suc u) 57344 b) refl)

low_digits :
    (u e f g h : ℕ) (xs : List ℕ) → AreHex e f g h → digit_value e ≡ 13 → 12 ≤ digit_value f
    → content_of (high u) (92 ∷ 117 ∷ e ∷ f ∷ g ∷ h ∷ xs) ≡ option_map (λ s. encode_utf8 (surrogates u (unit_of e f g h)) ++ s) (content_of text xs)
low_digits u e f g h xs hex d k =
    rw (on_digit_there 13 13 e (λ v. goes (low1 u) []) (omega arith) (omega arith))
    (rw (on_digit_there 12 15 f (λ v. goes (low2 u (208 + v)) []) k (let l = hex.1 in omega arith))
    (rw (on_digit_there 0 15 g (λ v. goes (low3 u ((208 + digit_value f) * 16 + v)) []) (omega arith) (let l = hex.2 in omega arith))
    (rw (on_digit_there 0 15 h (λ v. goes text (encode_utf8 (surrogates u (((208 + digit_value f) * 16 + digit_value g) * 16 + v)))) (omega arith) (let l = hex.3 in omega arith))
    (rw (same_unit (digit_value e) (digit_value f) (digit_value g) (digit_value h) d)
    (plain (option_map (λ s. encode_utf8 (surrogates u (unit_of e f g h)) ++ s) (content_of text xs)))))))
  where
    same_unit : (e f g h : ℕ) → e ≡ 13 → ((208 + f) * 16 + g) * 16 + h ≡ ((e * 16 + f) * 16 + g) * 16 + h
    same_unit e f g h d = omega arith

    plain : (o : Option (List ℕ)) → option_map (λ s. s) (option_map (λ s. s) (option_map (λ s. s) (option_map (λ s. s) (option_map (λ s. s) o)))) ≡ o
    plain None = refl
    plain (Some s) = refl

letter_not_u : (x m : ℕ) → meaning_of_letter x ≡ Some m → (x == 117) ≡ false
letter_not_u x m h = elim (eqb_tells x 117) [ inl e ↦ absurd (cc (rw e.1 at h)) | inr e ↦ e.0 ]

high_digits : (a b c d : ℕ) → AreHex a b c d → 55296 ≤ unit_of a b c d → unit_of a b c d < 56320 → digit_value a ≡ 13 → digit_value b ≤ 11
high_digits a b c d (p, q, r, s) l u e = omega arith

alone_digits : (a b c d : ℕ) → AreHex a b c d → (unit_of a b c d < 55296) ⊎ (57344 ≤ unit_of a b c d) → digit_value a ≡ 13 → digit_value b ≤ 11
alone_digits a b c d (p, q, r, s) (inl l) e = omega arith
alone_digits a b c d (p, q, r, s) (inr l) e = omega arith

low_is : (a b c d : ℕ) → AreHex a b c d → 56320 ≤ unit_of a b c d → unit_of a b c d < 57344 → (digit_value a ≡ 13) × (12 ≤ digit_value b)
low_is a b c d (p, q, r, s) l u = (omega arith, omega arith)

pub characters_content : (cs : List Character) → AllByRecursion IsCharacter cs → content_of text (flat_map bytes_of_character cs) ≡ Some (flat_map meaning_of cs)
characters_content [] h = refl
characters_content (itself x ∷ cs) ((a, b, c), more) = rw b (rw c (rw (not_below x 32 a) (rw (characters_content cs more) refl)))
characters_content (letter x ∷ cs) ((m, e), more) = rw (letter_not_u x m e) (rw e (rw (characters_content cs more) refl))
characters_content (unit a b c d ∷ cs) ((hex, alone), more) =
    four_digits a b c d (flat_map bytes_of_character cs) hex (alone_digits a b c d hex alone)
    ∙ rw (unit_alone (unit_of a b c d) alone) (rw (characters_content cs more) refl)
characters_content (pair a b c d e f g h ∷ cs) ((hex, low_hex, l1, l2, l3, l4), more) =
    let second = low_is e f g h low_hex l3 l4 in
    four_digits a b c d (92 ∷ 117 ∷ e ∷ f ∷ g ∷ h ∷ flat_map bytes_of_character cs) hex (high_digits a b c d hex l1 l2)
    ∙ ap (λ (n : StringNext). content_next n (λ q. content_of q (92 ∷ 117 ∷ e ∷ f ∷ g ∷ h ∷ flat_map bytes_of_character cs))) (unit_high (unit_of a b c d) l1 (omega arith))
    ∙ ap (λ (o : Option (List ℕ)). option_map (λ s. s) o) (low_digits (unit_of a b c d) e f g h (flat_map bytes_of_character cs) low_hex second.0 second.1)
    ∙ rw (characters_content cs more) refl

-- TO CHARACTERS

-- what is read of a character
data Partial : Type 0 where
  none : Partial
  at_backslash : Partial
  at_u : Partial
  one : ℕ → Partial
  two : ℕ → ℕ → Partial
  three : ℕ → ℕ → ℕ → Partial
  four : ℕ → ℕ → ℕ → ℕ → Partial
  five : ℕ → ℕ → ℕ → ℕ → Partial
  six : ℕ → ℕ → ℕ → ℕ → Partial
  seven : ℕ → ℕ → ℕ → ℕ → ℕ → Partial
  eight : ℕ → ℕ → ℕ → ℕ → ℕ → ℕ → Partial
  nine : ℕ → ℕ → ℕ → ℕ → ℕ → ℕ → ℕ → Partial

abbrev part_of : Partial → StringPart
part_of none = text
part_of at_backslash = backslash
part_of at_u = digits0
part_of (one a) = digits1 (digit_value a)
part_of (two a b) = digits2 (digit_value a * 16 + digit_value b)
part_of (three a b c) = digits3 ((digit_value a * 16 + digit_value b) * 16 + digit_value c)
part_of (four a b c d) = high (unit_of a b c d)
part_of (five a b c d) = high_backslash (unit_of a b c d)
part_of (six a b c d) = low0 (unit_of a b c d)
part_of (seven a b c d e) = low1 (unit_of a b c d)
part_of (eight a b c d e f) = low2 (unit_of a b c d) (208 + digit_value f)
part_of (nine a b c d e f g) = low3 (unit_of a b c d) ((208 + digit_value f) * 16 + digit_value g)

abbrev bytes_before : Partial → List ℕ → List ℕ
bytes_before none w = w
bytes_before at_backslash w = 92 ∷ w
bytes_before at_u w = 92 ∷ 117 ∷ w
bytes_before (one a) w = 92 ∷ 117 ∷ a ∷ w
bytes_before (two a b) w = 92 ∷ 117 ∷ a ∷ b ∷ w
bytes_before (three a b c) w = 92 ∷ 117 ∷ a ∷ b ∷ c ∷ w
bytes_before (four a b c d) w = 92 ∷ 117 ∷ a ∷ b ∷ c ∷ d ∷ w
bytes_before (five a b c d) w = 92 ∷ 117 ∷ a ∷ b ∷ c ∷ d ∷ 92 ∷ w
bytes_before (six a b c d) w = 92 ∷ 117 ∷ a ∷ b ∷ c ∷ d ∷ 92 ∷ 117 ∷ w
bytes_before (seven a b c d e) w = 92 ∷ 117 ∷ a ∷ b ∷ c ∷ d ∷ 92 ∷ 117 ∷ e ∷ w
bytes_before (eight a b c d e f) w = 92 ∷ 117 ∷ a ∷ b ∷ c ∷ d ∷ 92 ∷ 117 ∷ e ∷ f ∷ w
bytes_before (nine a b c d e f g) w = 92 ∷ 117 ∷ a ∷ b ∷ c ∷ d ∷ 92 ∷ 117 ∷ e ∷ f ∷ g ∷ w

abbrev IsHigh : ℕ → ℕ → ℕ → ℕ → Type 0
IsHigh a b c d = AreHex a b c d × (55296 ≤ unit_of a b c d) × (unit_of a b c d < 56320)

abbrev IsPartial : Partial → Type 0
IsPartial none = Unit {0}
IsPartial at_backslash = Unit {0}
IsPartial at_u = Unit {0}
IsPartial (one a) = digit_value a < 16
IsPartial (two a b) = (digit_value a < 16) × (digit_value b < 16) × (digit_value a ≡ 13 → digit_value b ≤ 11)
IsPartial (three a b c) = (digit_value a < 16) × (digit_value b < 16) × (digit_value a ≡ 13 → digit_value b ≤ 11) × (digit_value c < 16)
IsPartial (four a b c d) = IsHigh a b c d
IsPartial (five a b c d) = IsHigh a b c d
IsPartial (six a b c d) = IsHigh a b c d
IsPartial (seven a b c d e) = IsHigh a b c d × (digit_value e ≡ 13)
IsPartial (eight a b c d e f) = IsHigh a b c d × (digit_value e ≡ 13) × (12 ≤ digit_value f) × (digit_value f < 16)
IsPartial (nine a b c d e f g) = IsHigh a b c d × (digit_value e ≡ 13) × (12 ≤ digit_value f) × (digit_value f < 16) × (digit_value g < 16)

-- what holds of the bytes after a part
abbrev AllRead : List ℕ → Type 0
AllRead w = (q : Partial) (s : List ℕ) → IsPartial q → content_of (part_of q) w ≡ Some s → Characters s (bytes_before q w)

with_character : {s w : List ℕ} (c : Character) → IsCharacter c → Characters s w → Characters (meaning_of c ++ s) (bytes_of_character c ++ w)
with_character c is more = record {
  all = c ∷ more.all;
  are = (is, more.are);
  written = ap (λ (v : List ℕ). bytes_of_character c ++ v) more.written;
  meant = ap (λ (v : List ℕ). meaning_of c ++ v) more.meant;
}

pub map_from : (e s : List ℕ) (o : Option (List ℕ)) → option_map (λ t. e ++ t) o ≡ Some s → (t : List ℕ) × (o ≡ Some t) × (s ≡ e ++ t)
map_from e s None h = absurd (cc h)
map_from e s (Some t) h = (t, refl, cc)

pushed : (c : Character) (w s : List ℕ) → IsCharacter c → AllRead w → option_map (λ t. meaning_of c ++ t) (content_of text w) ≡ Some s → Characters s (bytes_of_character c ++ w)
pushed c w s is f h =
    let r = map_from (meaning_of c) s (content_of text w) h in
    subst (λ (v : List ℕ). Characters v (bytes_of_character c ++ w)) (sym r.2) (with_character c is (f none r.0 tt r.1))

same : (s : List ℕ) (o : Option (List ℕ)) → option_map (λ t. t) o ≡ Some s → o ≡ Some s
same s None h = absurd (cc h)
same s (Some t) h = h

read_text : (x : ℕ) (w s : List ℕ) → AllRead w → content_of text (x ∷ w) ≡ Some s → Characters s (x ∷ w)
read_text x w s f h =
    elim (eqb_tells x 34) [
      | inl a ↦ absurd (cc (rw a.0 at h))
      | inr a ↦ (let h2 = rw a.0 at h in elim (eqb_tells x 92) [
        | inl b ↦ subst (λ (n : ℕ). Characters s (n ∷ w)) (sym b.1) (f at_backslash s tt (same s (content_of backslash w) (rw b.0 at h2)))
        | inr b ↦ (let h3 = rw b.0 at h2 in elim (leb_tells (suc x) 32) [
          | inl c ↦ absurd (cc (rw c.0 at h3))
          | inr c ↦ pushed (itself x) w s (omega (arith, c.1), a.0, b.0) f (rw c.0 at h3)
        ])
      ])
    ]

read_letter : (x : ℕ) (w s : List ℕ) (o : Option ℕ) → meaning_of_letter x ≡ o → AllRead w → content_next (letter_or_stops o) (λ q. content_of q w) ≡ Some s → Characters s (92 ∷ x ∷ w)
read_letter x w s None e f h = absurd (cc h)
read_letter x w s (Some m) e f h =
    pushed (letter x) w s (m, e) f (subst (λ (o : Option ℕ). option_map (λ t. Rattle.pb_json_text.specs.Grammar.some_byte o ++ t) (content_of text w) ≡ Some s) (sym e) h)

read_backslash : (x : ℕ) (w s : List ℕ) → AllRead w → content_of backslash (x ∷ w) ≡ Some s → Characters s (92 ∷ x ∷ w)
read_backslash x w s f h =
    elim (eqb_tells x 117) [
      | inl a ↦ subst (λ (n : ℕ). Characters s (92 ∷ n ∷ w)) (sym a.1) (f at_u s tt (same s (content_of digits0 w) (rw a.0 at h)))
      | inr a ↦ read_letter x w s (meaning_of_letter x) refl f (rw a.0 at h)
    ]

most_is : (a b : ℕ) → b ≤ most_second a → (b < 16) × (a ≡ 13 → b ≤ 11)
most_is a b l =
    elim (eqb_tells a 13) [
      | inl e ↦ (let k = rw e.0 at l in (omega arith, λ z. k))
      | inr e ↦ (let k = rw e.0 at l in (omega arith, λ z. absurd (e.1 z)))
    ]

unit_cases :
    (u : ℕ) (w s : List ℕ) → content_next (unit_next u) (λ q. content_of q w) ≡ Some s
    → (((u < 55296) ⊎ (57344 ≤ u)) × (option_map (λ t. encode_utf8 u ++ t) (content_of text w) ≡ Some s))
    ⊎ ((55296 ≤ u) × (u < 57344) × (content_of (high u) w ≡ Some s))
unit_cases u w s h =
    elim (leb_tells 55296 u) [
      | inl a ↦ (let h2 = rw a.0 at h in elim (leb_tells (suc u) 57344) [
        | inl b ↦ inr (a.1, b.1, same s (content_of (high u) w) (rw b.0 at h2))
        | inr b ↦ inl (inr (omega (arith, b.1)), rw b.0 at h2)
      ])
      | inr a ↦ inl (inl a.1, rw a.0 at h)
    ]

high_is : (a b c d : ℕ) → AreHex a b c d → (digit_value a ≡ 13 → digit_value b ≤ 11) → 55296 ≤ unit_of a b c d → unit_of a b c d < 57344 → unit_of a b c d < 56320
high_is a b c d (p, q, r, s) most l u = by_first (eqb_tells (digit_value a) 13)
  where
    by_first : (((digit_value a == 13) ≡ true) × (digit_value a ≡ 13)) ⊎ (((digit_value a == 13) ≡ false) × (digit_value a ≢ 13)) → unit_of a b c d < 56320
    by_first (inl (t, e)) = let m = most e in omega arith
    by_first (inr (t, n)) = absurd (n (omega arith))

read_fourth :
    (a b c d : ℕ) (w s : List ℕ) → IsPartial (three a b c) → AllRead w → content_of (part_of (three a b c)) (d ∷ w) ≡ Some s
    → Characters s (92 ∷ 117 ∷ a ∷ b ∷ c ∷ d ∷ w)
read_fourth a b c d w s (la, lb, most, lc) f h =
    let r = on_digit_from 0 15 d (λ v. unit_next (((digit_value a * 16 + digit_value b) * 16 + digit_value c) * 16 + v)) (λ q. content_of q w) s h in
    let ld : digit_value d < 16 = (let k = r.1 in omega arith) in
    elim (unit_cases (unit_of a b c d) w s r.2) [
      | inl e ↦ pushed (unit a b c d) w s ((la, lb, lc, ld), e.0) f e.1
      | inr e ↦ f (four a b c d) s ((la, lb, lc, ld), e.0, high_is a b c d (la, lb, lc, ld) most e.0 e.1) e.2
    ]

read_last :
    (a b c d e f g h : ℕ) (w s : List ℕ) → IsPartial (nine a b c d e f g) → AllRead w → content_of (part_of (nine a b c d e f g)) (h ∷ w) ≡ Some s
    → Characters s (92 ∷ 117 ∷ a ∷ b ∷ c ∷ d ∷ 92 ∷ 117 ∷ e ∷ f ∷ g ∷ h ∷ w)
read_last a b c d e f g h w s (hi, le, lf, mf, lg) ih eq =
    let r = on_digit_from 0 15 h (λ v. goes text (encode_utf8 (surrogates (unit_of a b c d) (((208 + digit_value f) * 16 + digit_value g) * 16 + v)))) (λ q. content_of q w) s eq in
    let lh : digit_value h < 16 = (let k = r.1 in omega arith) in
    let u : ((208 + digit_value f) * 16 + digit_value g) * 16 + digit_value h ≡ unit_of e f g h = omega arith in
    let low : 56320 ≤ unit_of e f g h = omega arith in
    let below : unit_of e f g h < 57344 = omega arith in
    pushed (pair a b c d e f g h) w s (hi.0, (omega arith, mf, lg, lh), hi.1, hi.2, low, below) ih
    (subst (λ (n : ℕ). option_map (λ t. encode_utf8 (surrogates (unit_of a b c d) n) ++ t) (content_of text w) ≡ Some s) u r.2)

all_read : (w : List ℕ) → AllRead w
all_read [] none s p h = record { all = []; are = tt; written = refl; meant = cc }
all_read [] at_backslash s p h = absurd (cc h)
all_read [] at_u s p h = absurd (cc h)
all_read [] (one a) s p h = absurd (cc h)
all_read [] (two a b) s p h = absurd (cc h)
all_read [] (three a b c) s p h = absurd (cc h)
all_read [] (four a b c d) s p h = absurd (cc h)
all_read [] (five a b c d) s p h = absurd (cc h)
all_read [] (six a b c d) s p h = absurd (cc h)
all_read [] (seven a b c d e) s p h = absurd (cc h)
all_read [] (eight a b c d e f) s p h = absurd (cc h)
all_read [] (nine a b c d e f g) s p h = absurd (cc h)
all_read (x ∷ w) none s p h = read_text x w s (all_read w) h
all_read (x ∷ w) at_backslash s p h = read_backslash x w s (all_read w) h
all_read (x ∷ w) at_u s p h =
    let r = on_digit_from 0 15 x (λ v. goes (digits1 v) []) (λ q. content_of q w) s h in
    let l = r.1 in all_read w (one x) s (omega arith) (same s (content_of (part_of (one x)) w) r.2)
all_read (x ∷ w) (one a) s p h =
    let r = on_digit_from 0 (most_second (digit_value a)) x (λ v. goes (digits2 (digit_value a * 16 + v)) []) (λ q. content_of q w) s h in
    let m = most_is (digit_value a) (digit_value x) r.1 in all_read w (two a x) s (p, m.0, m.1) (same s (content_of (part_of (two a x)) w) r.2)
all_read (x ∷ w) (two a b) s p h =
    let r = on_digit_from 0 15 x (λ v. goes (digits3 ((digit_value a * 16 + digit_value b) * 16 + v)) []) (λ q. content_of q w) s h in
    let l = r.1 in all_read w (three a b x) s (p.0, p.1, p.2, omega arith) (same s (content_of (part_of (three a b x)) w) r.2)
all_read (x ∷ w) (three a b c) s p h = read_fourth a b c x w s p (all_read w) h
all_read (x ∷ w) (four a b c d) s p h =
    elim (eqb_tells x 92) [
      | inl e ↦ subst (λ (n : ℕ). Characters s (92 ∷ 117 ∷ a ∷ b ∷ c ∷ d ∷ n ∷ w)) (sym e.1) (all_read w (five a b c d) s p (same s (content_of (part_of (five a b c d)) w) (rw e.0 at h)))
      | inr e ↦ absurd (cc (rw e.0 at h))
    ]
all_read (x ∷ w) (five a b c d) s p h =
    elim (eqb_tells x 117) [
      | inl e ↦ subst (λ (n : ℕ). Characters s (92 ∷ 117 ∷ a ∷ b ∷ c ∷ d ∷ 92 ∷ n ∷ w)) (sym e.1) (all_read w (six a b c d) s p (same s (content_of (part_of (six a b c d)) w) (rw e.0 at h)))
      | inr e ↦ absurd (cc (rw e.0 at h))
    ]
all_read (x ∷ w) (six a b c d) s p h =
    let r = on_digit_from 13 13 x (λ v. goes (low1 (unit_of a b c d)) []) (λ q. content_of q w) s h in
    let l = r.0 in let k = r.1 in all_read w (seven a b c d x) s (p, omega arith) (same s (content_of (part_of (seven a b c d x)) w) r.2)
all_read (x ∷ w) (seven a b c d e) s p h =
    let r = on_digit_from 12 15 x (λ v. goes (low2 (unit_of a b c d) (208 + v)) []) (λ q. content_of q w) s h in
    let k = r.1 in all_read w (eight a b c d e x) s (p.0, p.1, r.0, omega arith) (same s (content_of (part_of (eight a b c d e x)) w) r.2)
all_read (x ∷ w) (eight a b c d e f) s p h =
    let r = on_digit_from 0 15 x (λ v. goes (low3 (unit_of a b c d) ((208 + digit_value f) * 16 + v)) []) (λ q. content_of q w) s h in
    let k = r.1 in all_read w (nine a b c d e f x) s (p.0, p.1, p.2, p.3, omega arith) (same s (content_of (part_of (nine a b c d e f x)) w) r.2)
all_read (x ∷ w) (nine a b c d e f g) s p h = read_last a b c d e f g x w s p (all_read w) h

pub content_characters : (w s : List ℕ) → content_of text w ≡ Some s → Characters s w
content_characters w s h = all_read w none s tt h
