-- Decimal integers, as the numeral that is scanned gives them.
use Rattle.std.proofs.Common.{◌≡◌, ℕ, ◌^◌, ◌<◌, Bool, false, List, [], ◌∷◌, ◌++◌, refl, sym, ap, ap₂, ◌∙◌, subst, append-nil, Option, Some, None, SomeIff, IfSome, FitsSigned, w64}
use Rattle.std.specs.Prelude.{ℤ, pos}
use Rattle.std.proofs.lemmas.List.{nil_from_length}
use Rattle.std.specs.Str.Parse.{digits_value}
use Rattle.fast_float.specs.Text.{Parts, IsInteger, digits_of}
use Rattle.pb_json_scalars.specs.Keys.{IsKeyText}
use Rattle.pb_json_scalars.specs.Numbers.{Number, IsNumber, none, fraction_text, exponent_text, minus_text, number_text, signed}
use Rattle.pb_json_scalars.specs.Scanned.{is_some, parts_of, unsigned, IsScanned, ScannedAs}
use Rattle.pb_json_scalars.proofs.WorthLemmas.{natural_found, natural_is}

nothing : (ds : List ℕ) → is_some ds ≡ false → ds ≡ []
nothing [] e = refl
nothing (d ∷ ds) e = absurd (cc)

-- a number without a fraction or an exponent
plain : List ℕ → Bool → Number
plain ds negative = record { negative = negative; whole = ds; fraction = []; upper = false; sign = none; exponent = [] }

text_is : (n : Number) → n.fraction ≡ [] → n.exponent ≡ [] → number_text n ≡ minus_text n.negative ++ n.whole
text_is n f e =
    ap₂ (λ (x y : List ℕ). minus_text n.negative ++ (n.whole ++ (fraction_text x ++ exponent_text n.upper n.sign y))) f e
    ∙ ap (λ (l : List ℕ). minus_text n.negative ++ l) (append-nil n.whole)

worth_is : (n : Number) → n.fraction ≡ [] → digits_of (parts_of n) ≡ digits_value 10 n.whole
worth_is n f = ap (λ (l : List ℕ). digits_value 10 (n.whole ++ l)) f ∙ ap (digits_value 10) (append-nil n.whole)

key_of : (s : List ℕ) (negative : Bool) (p : Parts) (z : ℤ) → IsScanned s negative p → IsInteger p → z ≡ signed negative (digits_of p) → IsKeyText s z
key_of s negative p z (n, is, same) integer e =
    let whole = subst IsInteger same.1 integer in
    let f : n.fraction ≡ [] = nothing n.fraction whole.1 in
    let x : n.exponent ≡ [] = nil_from_length n.exponent whole.2 in (
      n.negative,
      n.whole,
      is.whole,
      is.text ∙ text_is n f x,
      e ∙ ap₂ (λ (b : Bool) (k : ℕ). signed b k) same.0 (ap digits_of same.1 ∙ worth_is n f),
    )

-- a key is a number
pub key_number : (s : List ℕ) (z : ℤ) → IsKeyText s z → (n : Number) × IsNumber s n
unfolding plain
key_number s z (b, ds, int, text, e) = (plain ds b, record { whole = int; fraction = tt; exponent = tt; text = text ∙ sym (text_is (plain ds b) refl refl) })

found : (s : List ℕ) (negative : Bool) (p : Parts) (z : ℤ) → ((n : Number) → IsNumber s n → ScannedAs n negative p) → IsKeyText s z
    → IsInteger p × (z ≡ signed negative (digits_of p))
unfolding plain
found s negative p z which (b, ds, int, text, e) =
    let n = plain ds b in
    let is : IsNumber s n = record { whole = int; fraction = tt; exponent = tt; text = text ∙ sym (text_is n refl refl) } in
    let same = which n is in
    let integer : IsInteger p = subst IsInteger (sym same.1) (int.0.0, refl, refl) in
    (integer, e ∙ ap₂ (λ (c : Bool) (k : ℕ). signed c k) (sym same.0) (sym (worth_is n refl) ∙ ap digits_of (sym same.1)))

pub key_read : (o : Option ℤ) (s : List ℕ) (negative : Bool) (p : Parts) → IsScanned s negative p
    → SomeIff o (IsInteger p × FitsSigned w64 (signed negative (digits_of p))) (signed negative (digits_of p)) → IfSome o (IsKeyText s)
key_read None s negative p is h = tt
key_read (Some z) s negative p is h = key_of s negative p z is h.0.0 h.1

pub key_found : (o : Option ℤ) (s : List ℕ) (negative : Bool) (p : Parts) (z : ℤ) → ((n : Number) → IsNumber s n → ScannedAs n negative p)
    → SomeIff o (IsInteger p × FitsSigned w64 (signed negative (digits_of p))) (signed negative (digits_of p)) → IsKeyText s z → FitsSigned w64 z → o ≡ Some z
key_found None s negative p z which h is fits =
    let f = found s negative p z which is in
    absurd (h (f.0, subst (λ (y : ℤ). FitsSigned w64 y) f.1 fits))
key_found (Some x) s negative p z which h is fits =
    let f = found s negative p z which is in
    ap (λ (y : ℤ). Some y) (h.1 ∙ sym f.1)

by_natural : (o : Option ℕ) (s : List ℕ) (negative : Bool) (p : Parts) → IsScanned s negative p → IsInteger p
    → IfSome o (λ n. pos n ≡ signed negative (digits_of p)) → IfSome o (λ n. IsKeyText s (pos n))
by_natural None s negative p is integer h = tt
by_natural (Some n) s negative p is integer h = key_of s negative p (pos n) is integer h

pub natural_key_read : (o : Option ℕ) (k : ℕ) (s : List ℕ) (negative : Bool) (p : Parts) → IsScanned s negative p
    → (IsInteger p × (digits_of p < 2 ^ 64)) × (k ≡ digits_of p) → o ≡ unsigned negative k → IfSome o (λ n. IsKeyText s (pos n))
natural_key_read o k s negative p is h e =
    by_natural o s negative p is h.0.0
    (subst (λ (x : Option ℕ). IfSome x (λ n. pos n ≡ signed negative (digits_of p))) (sym (e ∙ ap (unsigned negative) h.1)) (natural_is negative (digits_of p)))

pub natural_key_none : (s : List ℕ) (negative : Bool) (p : Parts) (n : ℕ) → ((m : Number) → IsNumber s m → ScannedAs m negative p)
    → ¬ (IsInteger p × (digits_of p < 2 ^ 64)) → IsKeyText s (pos n) → n < 2 ^ 64 → ⊥
natural_key_none s negative p n which unfit is fits =
    let f = found s negative p (pos n) which is in
    let same = natural_found negative (digits_of p) n f.1 in
    unfit (f.0, rw (← same.0) fits)

pub natural_key_found : (o : Option ℕ) (k : ℕ) (s : List ℕ) (negative : Bool) (p : Parts) (n : ℕ) → ((m : Number) → IsNumber s m → ScannedAs m negative p)
    → k ≡ digits_of p → o ≡ unsigned negative k → IsKeyText s (pos n) → o ≡ Some n
natural_key_found o k s negative p n which ek e is =
    let f = found s negative p (pos n) which is in
    let same = natural_found negative (digits_of p) n f.1 in
    e ∙ ap (unsigned negative) ek ∙ same.1
