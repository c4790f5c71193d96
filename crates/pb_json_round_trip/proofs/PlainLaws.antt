-- Digits, names and base64 are ASCII, and need no escape where they are written without one.
use Rattle.std.proofs.Common.{◌≡◌, ℕ, zero, suc, ◌+◌, ◌-◌, ◌*◌, ◌/◌, ◌%◌, ◌^◌, ◌<◌, ◌≤◌, Bool, true, false, eqb, ◌&&◌, ◌||◌, List, [], ◌∷◌, ◌++◌, length, get_or, replicate, IsTrue, IsUtf8, Option, Some, None, IfSome, inl, inr, refl, ap₂, ◌∙◌, subst, arith, le-leb, le-ltb, lt-ltb, ne_eqb, ℤ, pos, negsuc, FitsSigned, w64, decimal}
use Rattle.std.proofs.lemmas.Bool.{agree_below_at, and_parts, cases_Bool, cases_lt, lt-leb}
use Rattle.std.proofs.lemmas.Fmt.{decimal_is_IsNumeral}
use Rattle.std.proofs.lemmas.Int.{ints}
use Rattle.std.proofs.lemmas.List.Folds.{list_all-append}
use Rattle.std.proofs.lemmas.Str.Parse.{digit_from_value}
use Rattle.std.specs.Fmt.{signed_decimal}
use Rattle.std.specs.List.{list_all}
use Rattle.std.specs.Prelude.{unwrap_or}
use Rattle.std.specs.Str.Parse.{AllDigits}
use Rattle.base64.specs.Engines.{standard}
use Rattle.base64.specs.GeneralPurpose.{IsBytes, encode_of, engine_symbols}
use Rattle.base64.specs.Rfc4648.{encode_symbols, padding_len}
use Rattle.pb_schema.specs.Names.{begins_word, continues_word, is_word}
use Rattle.pb_schema.specs.Types.{FieldView}
use Rattle.pb_json.specs.Given.{name_given}
use Rattle.pb_json.specs.JsonNames.{camel_from, cased, lower_camel, member_name}
use Rattle.pb_json.specs.declared.form.Names.{Names}
use Rattle.pb_json.specs.declared.form.Names.TheVariants.{Declared, Given, LowerCamel}
use Rattle.pb_json_read.specs.Anys.{is_tag}
use Rattle.pb_json_round_trip.specs.Messages.{AreMemberNames}
use Rattle.pb_json_round_trip.specs.Texts.{is_plain}
use Rattle.pb_json_round_trip.proofs.CharacterLaws.{ascii_utf8, is_ascii}

pub joined : (p : ℕ → Bool) (s t : List ℕ) → list_all p s ≡ true → list_all p t ≡ true → list_all p (s ++ t) ≡ true
joined p s t a b = list_all-append p s t ∙ ap₂ (λ (x y : Bool). x && y) a b

-- ---- integers

pub digit_plain : (d : ℕ) → 48 ≤ d → d ≤ 57 → is_plain d ≡ true
digit_plain d low high =
    let e : 48 + (d - 48) ≡ d = omega arith in
    subst (λ (x : ℕ). is_plain x ≡ true) e (agree_below_at (λ n. is_plain (48 + n)) (λ n. true) 10 (d - 48) refl (omega arith))

digits_plain : (ds : List ℕ) → AllDigits 10 ds → list_all is_plain ds ≡ true
digits_plain [] h = refl
digits_plain (d ∷ ds) h = let r = digit_from_value d h.0 in rw (digit_plain d r.0 r.1) (digits_plain ds h.1)

pub natural_plain : (n : ℕ) → n < 2 ^ 64 → list_all is_plain (decimal n) ≡ true
natural_plain n small = digits_plain (decimal n) (decimal_is_IsNumeral n small).0.1

pub signed_plain : (z : ℤ) → FitsSigned w64 z → list_all is_plain (signed_decimal z) ≡ true
signed_plain (pos n) fits = natural_plain n (omega (arith, ints, fits))
signed_plain (negsuc n) fits = natural_plain (suc n) (omega (arith, ints, fits))

-- ---- base64

table_plain : (v : ℕ) → v < 64 → is_plain (get_or (engine_symbols standard) v 0) ≡ true
table_plain v small = agree_below_at (λ k. is_plain (get_or (engine_symbols standard) k 0)) (λ k. true) 64 v refl small

symbols_plain : (m : List ℕ) → IsBytes m → list_all is_plain (encode_symbols (engine_symbols standard) m) ≡ true
unfolding encode_symbols
symbols_plain [] h = refl
symbols_plain (a ∷ []) h =
    let la : a < 256 = h 0 in
    rw (table_plain (a / 4) (omega arith), table_plain (a % 4 * 16) (omega arith)) refl
symbols_plain (a ∷ b ∷ []) h =
    let la : a < 256 = h 0 in
    let lb : b < 256 = h 1 in
    rw (table_plain (a / 4) (omega arith), table_plain (a % 4 * 16 + b / 16) (omega arith), table_plain (b % 16 * 4) (omega arith)) refl
symbols_plain (a ∷ b ∷ c ∷ rest) h =
    let la : a < 256 = h 0 in
    let lb : b < 256 = h 1 in
    let lc : c < 256 = h 2 in
    rw (
      table_plain (a / 4) (omega arith),
      table_plain (a % 4 * 16 + b / 16) (omega arith),
      table_plain (b % 16 * 4 + c / 64) (omega arith),
      table_plain (c % 64) (omega arith),
    ) (symbols_plain rest (λ i. h (suc (suc (suc i)))))

padding_plain : (n : ℕ) → list_all is_plain (replicate n 61) ≡ true
padding_plain zero = refl
padding_plain (suc n) = padding_plain n

pub base64_plain : (m : List ℕ) → IsBytes m → list_all is_plain (encode_of standard m) ≡ true
base64_plain m h =
    joined is_plain (encode_symbols (engine_symbols standard) m) (replicate (padding_len (length m)) 61) (symbols_plain m h) (padding_plain (padding_len (length m)))

-- ---- names

-- a letter, a digit or an underscore
letter_ascii : (c : ℕ) → continues_word c ≡ true → is_ascii c ≡ true
letter_ascii c h =
    elim (cases_lt c 128) [
      | inl small ↦ lt-ltb c 128 small
      | inr big ↦ absurd (cc (rw (
        lt-leb c 90 (omega arith),
        lt-leb c 122 (omega arith),
        lt-leb c 57 (omega arith),
        ne_eqb c 95 (λ e. omega arith),
        le-leb 65 c (omega arith),
        le-leb 97 c (omega arith),
        le-leb 48 c (omega arith),
      ) at h))
    ]

or_true : (a b : Bool) → a ≡ true → (a || b) ≡ true
or_true true b h = refl
or_true false b h = absurd (cc)

letters_ascii : (s : List ℕ) → list_all continues_word s ≡ true → list_all is_ascii s ≡ true
letters_ascii [] h = refl
letters_ascii (c ∷ cs) h = let p = and_parts (continues_word c) (list_all continues_word cs) h in rw (letter_ascii c p.0) (letters_ascii cs p.1)

word_is : (s : List ℕ) → is_word s ≡ true → list_all is_ascii s ≡ true
word_is [] h = absurd (cc)
word_is (c ∷ cs) h =
    let p = and_parts (begins_word c) (list_all continues_word cs) h in
    let first : continues_word c ≡ true = or_true (begins_word c) _ p.0 in
    rw (letter_ascii c first) (letters_ascii cs p.1)

pub word_ascii : (s : List ℕ) → IsTrue (is_word s) → list_all is_ascii s ≡ true
word_ascii s word = word_is s word

pub raised_ascii : (raised : Bool) (c : ℕ) → is_ascii c ≡ true → is_ascii (cased raised c) ≡ true
raised_ascii false c h = h
raised_ascii true c h =
    elim (cases_lt c 97) [
      | inl low ↦ rw (lt-ltb c 97 low) h
      | inr high ↦ elim (cases_lt c 123) [
        | inl low ↦ rw (le-ltb c 97 high, lt-ltb c 123 low) (lt-ltb (c - 32) 128 (omega arith))
        | inr other ↦ rw (le-ltb c 97 high, le-ltb c 123 other) h
      ]
    ]

camel_ascii : (raised : Bool) (s : List ℕ) → list_all is_ascii s ≡ true → list_all is_ascii (camel_from raised s) ≡ true
camel_ascii raised [] h = refl
camel_ascii raised (c ∷ cs) h =
    let p = and_parts (is_ascii c) (list_all is_ascii cs) h in
    let later = camel_ascii (eqb c 95) cs p.1 in
    elim (cases_Bool (eqb c 95)) [
      | inl e ↦ rw e (rw e at later)
      | inr e ↦ rw (e, raised_ascii raised c p.0) (rw e at later)
    ]

pub name_utf8 : (names : Names) → AreMemberNames names → (m : ℕ) (f : FieldView) → IsTrue (is_word f.name) → IsUtf8 (member_name names m f)
name_utf8 LowerCamel are m f word = ascii_utf8 (lower_camel f.name) (camel_ascii false f.name (word_ascii f.name word))
name_utf8 Declared are m f word = ascii_utf8 f.name (word_ascii f.name word)
name_utf8 (Given names) are m f word = of (name_given names.now m f.number) (are m f.number)
  where
    of : (o : Option (List ℕ)) → IfSome o (λ s. IsUtf8 s × (is_tag s ≡ false)) → IsUtf8 (unwrap_or o (lower_camel f.name))
    of None h = ascii_utf8 (lower_camel f.name) (camel_ascii false f.name (word_ascii f.name word))
    of (Some s) h = h.0

plain_byte : (x : ℕ) → is_plain x ≡ true → is_ascii x ≡ true
plain_byte x h = let p = Rattle.pb_json_round_trip.proofs.CharacterLaws.plain_parts x h in lt-ltb x 128 (omega arith)
