-- Strings, as they are written, are characters of JSON, and are UTF-8.
use Rattle.std.proofs.Common.{◌≡◌, ℕ, zero, suc, ◌+◌, ◌*◌, ◌/◌, ◌%◌, ◌<◌, ◌≤◌, Bool, true, false, eqb, ltb, ◌&&◌, List, [], ◌∷◌, ◌++◌, length, get_or, IsUtf8, Some, None, inl, inr, refl, sym, ap, ap₂, ◌∙◌, subst, arith, append-nil, le-leb, le-ltb, ltb-true, leb-true, ne_eqb, eqb-true}
use Rattle.std.specs.Prelude.{nat_le, nat_lt, not}
use Rattle.std.proofs.lemmas.Bool.{agree_below_at, and_parts, cases_lt}
use Rattle.std.proofs.lemmas.Bool.Decides.{eqb_tells}
use Rattle.std.proofs.lemmas.Grind.{flat_map-append}
use Rattle.std.proofs.lemmas.Str.{IsUtf8-append, IsUtf8-nil, IsUtf8-encode, IsUtf8-from_ascii, encode_ascii, inside_one}
use Rattle.std.specs.Char.{digit_value}
use Rattle.std.specs.List.{flat_map, list_all}
use Rattle.std.specs.Prelude.{encode_utf8}
use lib.Utf8.{encodes, scalar, scalars}
use Rattle.hex.specs.Hex.{encode_with, lower_digits}
use Rattle.pb_json.specs.JsonText.{escape_letter, string_byte}
use Rattle.pb_json_text.specs.Grammar.{Character, Characters, IsCharacter, bytes_of_character, itself, letter, meaning_of, meaning_of_letter, some_byte, unit}
use Rattle.pb_json_round_trip.specs.Texts.{is_plain}

-- ---- ASCII

pub byte_utf8 : (x : ℕ) (xs : List ℕ) → x < 128 → IsUtf8 xs → IsUtf8 (x ∷ xs)
byte_utf8 x xs small u = IsUtf8-append (x ∷ []) xs (IsUtf8-from_ascii (x ∷ []) only) u
  where
    only : (i : ℕ) → get_or (x ∷ []) i 0 < 128
    only zero = small
    only (suc i) = omega arith

abbrev pub is_ascii : ℕ → Bool
is_ascii x = ltb x 128

pub ascii_utf8 : (s : List ℕ) → list_all is_ascii s ≡ true → IsUtf8 s
ascii_utf8 [] h = IsUtf8-nil
ascii_utf8 (x ∷ s) h = let p = and_parts _ _ h in byte_utf8 x s (ltb-true x 128 p.0) (ascii_utf8 s p.1)

-- what one byte of a string is written as
record IsWritten (b : ℕ) : Type 0 where
  character : Character
  is : IsCharacter character
  written : string_byte b ≡ bytes_of_character character
  meant : meaning_of character ≡ b ∷ []
  ascii : b < 128 → list_all is_ascii (string_byte b) ≡ true

by_letter : (b l : ℕ) → string_byte b ≡ 92 ∷ l ∷ [] → meaning_of_letter l ≡ Some b → is_ascii l ≡ true → IsWritten b
by_letter b l written means small = record {
  character = letter l;
  is = (b, means);
  written = written;
  meant = ap some_byte means;
  ascii = λ _. rw written (rw small refl);
}

-- a digit of four bits, in lower case
abbrev nibble : ℕ → ℕ
nibble k = get_or lower_digits k 0

nibble_value : (k : ℕ) → k < 16 → digit_value (nibble k) ≡ k
nibble_value k small = eqb-true (digit_value (nibble k)) k (agree_below_at (λ n. eqb (digit_value (nibble n)) n) (λ n. true) 16 k refl small)

nibble_ascii : (k : ℕ) → k < 16 → is_ascii (nibble k) ≡ true
nibble_ascii k small = agree_below_at (λ n. is_ascii (nibble n)) (λ n. true) 16 k refl small

control : (b : ℕ) → escape_letter b ≡ None → b < 32 → IsWritten b
unfolding encode_with
control b none small =
    let high = nibble_value (b / 16) (omega arith) in
    let low = nibble_value (b % 16) (omega arith) in
    let under : ltb b 32 ≡ true = le-leb (suc b) 32 small in
    let text : string_byte b ≡ 92 ∷ 117 ∷ 48 ∷ 48 ∷ nibble (b / 16) ∷ nibble (b % 16) ∷ [] = rw (none, under) refl in
    let value : (0 * 16 + digit_value (nibble (b / 16))) * 16 + digit_value (nibble (b % 16)) ≡ b = omega (arith, high, low) in
    record {
      character = unit 48 48 (nibble (b / 16)) (nibble (b % 16));
      is = ((omega arith, omega arith, omega (arith, high), omega (arith, low)), inl (omega (arith, value)));
      written = text;
      meant = ap encode_utf8 value ∙ encode_ascii b (omega arith);
      ascii = λ _. rw (text, nibble_ascii (b / 16) (omega arith), nibble_ascii (b % 16) (omega arith)) refl;
    }

other : (b : ℕ) → escape_letter b ≡ None → 32 ≤ b → eqb b 34 ≡ false → eqb b 92 ≡ false → IsWritten b
other b none big quote backslash =
    let text : string_byte b ≡ b ∷ [] = rw (none, le-ltb b 32 big) refl in
    record {
      character = itself b;
      is = (big, quote, backslash);
      written = text;
      meant = refl;
      ascii = λ small. let s : is_ascii b ≡ true = le-leb (suc b) 128 small in rw (text, s) refl;
    }

one_byte : (b : ℕ) → IsWritten b
one_byte b =
    elim (eqb_tells b 34) [
      | inl e ↦ subst IsWritten (sym e.1) (by_letter 34 34 refl refl refl)
      | inr quote ↦ elim (eqb_tells b 92) [
        | inl e ↦ subst IsWritten (sym e.1) (by_letter 92 92 refl refl refl)
        | inr backslash ↦ elim (eqb_tells b 8) [
          | inl e ↦ subst IsWritten (sym e.1) (by_letter 8 98 refl refl refl)
          | inr b8 ↦ elim (eqb_tells b 12) [
            | inl e ↦ subst IsWritten (sym e.1) (by_letter 12 102 refl refl refl)
            | inr b12 ↦ elim (eqb_tells b 10) [
              | inl e ↦ subst IsWritten (sym e.1) (by_letter 10 110 refl refl refl)
              | inr b10 ↦ elim (eqb_tells b 13) [
                | inl e ↦ subst IsWritten (sym e.1) (by_letter 13 114 refl refl refl)
                | inr b13 ↦ elim (eqb_tells b 9) [
                  | inl e ↦ subst IsWritten (sym e.1) (by_letter 9 116 refl refl refl)
                  | inr b9 ↦
                      let none : escape_letter b ≡ None = rw (quote.0, backslash.0, b8.0, b12.0, b10.0, b13.0, b9.0) refl in
                      elim (cases_lt b 32) [ inl small ↦ control b none small | inr big ↦ other b none big quote.0 backslash.0 ]
                ]
              ]
            ]
          ]
        ]
      ]
    ]

pub string_characters : (s : List ℕ) → Characters s (flat_map string_byte s)
string_characters [] = record { all = []; are = tt; written = refl; meant = refl }
string_characters (b ∷ bs) =
    let first = one_byte b in
    let more = string_characters bs in
    record {
      all = first.character ∷ more.all;
      are = (first.is, more.are);
      written = ap₂ (λ (x y : List ℕ). x ++ y) first.written more.written;
      meant = ap (λ (x : List ℕ). b ∷ x) more.meant ∙ ap (λ (x : List ℕ). x ++ flat_map meaning_of more.all) (sym first.meant);
    }

-- ---- a string that needs no escape

pub plain_parts : (x : ℕ) → is_plain x ≡ true → (32 ≤ x) × (x < 127) × (eqb x 34 ≡ false) × (eqb x 92 ≡ false)
plain_parts x h =
    let a = and_parts ((nat_le 32 x && nat_lt x 127) && not (eqb x 34)) (not (eqb x 92)) h in
    let b = and_parts (nat_le 32 x && nat_lt x 127) (not (eqb x 34)) a.0 in
    let c = and_parts (nat_le 32 x) (nat_lt x 127) b.0 in
    (leb-true 32 x c.0, ltb-true x 127 c.1, not_false (eqb x 34) b.1, not_false (eqb x 92) a.1)
  where
    not_false : (b : Bool) → not b ≡ true → b ≡ false
    not_false true h = sym h
    not_false false h = refl

pub plain_characters : (s : List ℕ) → list_all is_plain s ≡ true → Characters s s
plain_characters [] h = record { all = []; are = tt; written = refl; meant = refl }
plain_characters (x ∷ xs) h =
    let p = and_parts _ _ h in
    let at = plain_parts x p.0 in
    let more = plain_characters xs p.1 in
    record {
      all = itself x ∷ more.all;
      are = ((at.0, at.2, at.3), more.are);
      written = ap (λ (l : List ℕ). x ∷ l) more.written;
      meant = ap (λ (l : List ℕ). x ∷ l) more.meant;
    }

pub plain_utf8 : (s : List ℕ) → list_all is_plain s ≡ true → IsUtf8 s
plain_utf8 [] h = IsUtf8-nil
plain_utf8 (x ∷ s) h = let p = and_parts _ _ h in let at = plain_parts x p.0 in byte_utf8 x s (omega arith) (plain_utf8 s p.1)

-- ---- what is written of a string is UTF-8

-- no byte of a character beyond ASCII is escaped
beyond_ascii : (b : ℕ) → 128 ≤ b → string_byte b ≡ b ∷ []
beyond_ascii b big =
    rw (
      ne_eqb b 34 (λ e. omega arith),
      ne_eqb b 92 (λ e. omega arith),
      ne_eqb b 8 (λ e. omega arith),
      ne_eqb b 12 (λ e. omega arith),
      ne_eqb b 10 (λ e. omega arith),
      ne_eqb b 13 (λ e. omega arith),
      ne_eqb b 9 (λ e. omega arith),
      le-ltb b 32 (omega arith),
    ) refl

all_beyond : (s : List ℕ) → ((k : ℕ) → k < length s → 128 ≤ get_or s k 0) → flat_map string_byte s ≡ s
all_beyond [] h = refl
all_beyond (b ∷ bs) h = ap₂ (λ (x y : List ℕ). x ++ y) (beyond_ascii b (h 0 (omega arith))) (all_beyond bs (λ k below. h (suc k) (omega arith)))

one_character : (c : ℕ) → scalar c ≡ true → IsUtf8 (flat_map string_byte (encode_utf8 c))
one_character c ok =
    elim (cases_lt c 128) [
      | inl small ↦ rw (encode_ascii c small, append-nil) (let w = one_byte c in ascii_utf8 (string_byte c) (w.ascii small))
      | inr big ↦
          subst IsUtf8 (sym (all_beyond (encode_utf8 c) (beyond big))) (IsUtf8-encode c ok)
    ]
  where
    beyond : 128 ≤ c → (k : ℕ) → k < length (encode_utf8 c) → 128 ≤ get_or (encode_utf8 c) k 0
    beyond big k below = elim (cases_lt (get_or (encode_utf8 c) k 0) 128) [
      | inl low ↦ absurd (let e = inside_one c [] (encode_utf8 c) k (sym (append-nil (encode_utf8 c))) below low in omega arith)
      | inr h ↦ h
    ]

all_characters : (cs : List ℕ) → scalars cs ≡ true → IsUtf8 (flat_map string_byte (encodes cs))
all_characters [] h = IsUtf8-nil
all_characters (c ∷ cs) h =
    let p = and_parts _ _ h in
    subst IsUtf8 (sym (flat_map-append string_byte (encode_utf8 c) (encodes cs))) (IsUtf8-append _ _ (one_character c p.0) (all_characters cs p.1))

pub string_utf8 : (s : List ℕ) → IsUtf8 s → IsUtf8 (flat_map string_byte s)
string_utf8 s (cs, (ok, e)) = subst (λ (l : List ℕ). IsUtf8 (flat_map string_byte l)) e (all_characters cs ok)
