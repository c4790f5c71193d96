-- Small cases, worked out by hand from RFC 8259.
use Rattle.std.proofs.Common.{◌≡◌, ◌<◌, ◌≤◌, ◌⊎◌, ℕ, suc, ap, length, get_or, List, [], ◌∷◌, ◌++◌, true, false, Some, None, inl, inr, refl, codes, arith, lit<, lit≤}
use Rattle.std.specs.Fmt.{digits}
use Rattle.pb_json_text.specs.CauseName.{fault_text}
use Rattle.pb_json_text.specs.Grammar.{IsCharacter, IsExponent, IsFraction, IsMinus, IsNumber, IsText, IsValue, IsWhole, is_blank, itself, letter, meaning_of, meaning_of_letter, pair, surrogates, unit, unit_of}
use Rattle.pb_json_text.specs.Json.{array, boolean, element, member, no_elements, no_members, null, number, object, string}
use Rattle.pb_json_text.specs.Texts.{max_depth}
use Rattle.pb_json_text.specs.declared.fault.JsonCause.TheVariants.{TooDeep}

-- ---- blanks: a space, a tab, a line feed and a carriage return; no vertical tab, form feed, NUL or byte of a no-break space

blanks : (is_blank 0x20 ≡ true) × (is_blank 0x09 ≡ true) × (is_blank 0x0a ≡ true) × (is_blank 0x0d ≡ true)
blanks = (refl, refl, refl, refl)

no_blanks : (is_blank 0x0b ≡ false) × (is_blank 0x0c ≡ false) × (is_blank 0x00 ≡ false) × (is_blank 0xa0 ≡ false)
no_blanks = (refl, refl, refl, refl)

-- ---- escapes

letters :
    (meaning_of_letter 0x22 ≡ Some 0x22) × (meaning_of_letter 0x5c ≡ Some 0x5c) × (meaning_of_letter 0x2f ≡ Some 0x2f) × (meaning_of_letter 0x62 ≡ Some 0x08)
    × (meaning_of_letter 0x66 ≡ Some 0x0c) × (meaning_of_letter 0x6e ≡ Some 0x0a) × (meaning_of_letter 0x72 ≡ Some 0x0d) × (meaning_of_letter 0x74 ≡ Some 0x09)
letters = (refl, refl, refl, refl, refl, refl, refl, refl)

-- a, v, x, an apostrophe, 0, and the u of the long escape
no_letters :
    (meaning_of_letter 0x61 ≡ None) × (meaning_of_letter 0x76 ≡ None) × (meaning_of_letter 0x78 ≡ None) × (meaning_of_letter 0x27 ≡ None)
    × (meaning_of_letter 0x30 ≡ None) × (meaning_of_letter 0x75 ≡ None)
no_letters = (refl, refl, refl, refl, refl, refl)

units : (unit_of 0x32 0x30 0x61 0x43 ≡ 0x20ac) × (unit_of 0x44 0x38 0x30 0x31 ≡ 0xd801)
units = (refl, refl)

-- U+10000, U+10437 and U+10FFFF
halves : (surrogates 0xd800 0xdc00 ≡ 0x1_0000) × (surrogates 0xd801 0xdc37 ≡ 0x1_0437) × (surrogates 0xdbff 0xdfff ≡ 0x10_ffff)
halves = (refl, refl, refl)

-- `\u20AC` and `\uD801\udc37` in UTF-8
meanings :
    (meaning_of (unit 0x32 0x30 0x41 0x43) ≡ 0xe2 ∷ 0x82 ∷ 0xac ∷ [])
    × (meaning_of (pair 0x44 0x38 0x30 0x31 0x64 0x63 0x33 0x37) ≡ 0xf0 ∷ 0x90 ∷ 0x90 ∷ 0xb7 ∷ [])
unfolding lib.Utf8.encode
meanings = (refl, refl)

a_pair : IsCharacter (pair 0x44 0x38 0x30 0x31 0x64 0x63 0x33 0x37)
a_pair = ((lit< tt, lit< tt, lit< tt, lit< tt), (lit< tt, lit< tt, lit< tt, lit< tt), lit≤ tt, lit< tt, lit≤ tt, lit< tt)

-- `\udc37\ud801`
low_first : IsCharacter (pair 0x64 0x63 0x33 0x37 0x44 0x38 0x30 0x31) → ⊥
low_first h = omega (arith, h.3)

-- `\ud801\ud801`
high_twice : IsCharacter (pair 0x44 0x38 0x30 0x31 0x44 0x38 0x30 0x31) → ⊥
high_twice h = omega (arith, h.4)

-- `\ud801` alone, and a half that is the low one alone
alone : (IsCharacter (unit 0x64 0x38 0x30 0x31) → ⊥) × (IsCharacter (unit 0x64 0x63 0x33 0x37) → ⊥)
alone = (λ h. not_alone_high h.1, λ h. not_alone_low h.1)
  where
    not_alone_high : (0xd801 < 0xd800) ⊎ (0xe000 ≤ 0xd801) → ⊥
    not_alone_high (inl l) = omega (arith, l)
    not_alone_high (inr l) = omega (arith, l)

    not_alone_low : (0xdc37 < 0xd800) ⊎ (0xe000 ≤ 0xdc37) → ⊥
    not_alone_low (inl l) = omega (arith, l)
    not_alone_low (inr l) = omega (arith, l)

-- the units right before and after the surrogates
beside : IsCharacter (unit 0x64 0x37 0x66 0x66) × IsCharacter (unit 0x65 0x30 0x30 0x30)
beside = (((lit< tt, lit< tt, lit< tt, lit< tt), inl (lit< tt)), ((lit< tt, lit< tt, lit< tt, lit< tt), inr (lit≤ tt)))

-- no hexadecimal digit
no_digit : IsCharacter (unit 0x30 0x30 0x67 0x30) → ⊥
no_digit h = omega (arith, h.0.2)

-- a blank is a character, and a control character, a quotation mark or a backslash is none; one of eight bits is
themselves : IsCharacter (itself 0x20) × IsCharacter (itself 0x7f) × IsCharacter (itself 0xff)
themselves = ((lit≤ tt, refl, refl), (lit≤ tt, refl, refl), (lit≤ tt, refl, refl))

control : IsCharacter (itself 0x1f) → ⊥
control h = omega (arith, h.0)

quotation_mark : IsCharacter (itself 0x22) → ⊥
quotation_mark h = let e = h.1 in absurd (cc)

backslash : IsCharacter (itself 0x5c) → ⊥
backslash h = let e = h.2 in absurd (cc)

-- ---- numbers

-- `-10.50E+007`
a_number : IsNumber (codes "-10.50E+007")
a_number = record {
  minus = codes "-";
  whole = codes "10";
  fraction = codes ".50";
  exponent = codes "E+007";
  joined = refl;
  is_minus = inr refl;
  is_whole = inr (0x31, codes "0", refl, refl, refl, (refl, tt));
  is_fraction = inr (0x35, codes "0", refl, (refl, (refl, tt)));
  is_exponent = inr (0x45, codes "+", 0x30, codes "07", refl, inr refl, inr (inr refl), (refl, (refl, (refl, tt))));
}

zero_before : IsWhole (codes "01") → ⊥
zero_before (inl e) = absurd (cc)
zero_before (inr (x, ds, e, is, no_zero, are)) = absurd (cc)

no_plus : IsMinus (codes "+") → ⊥
no_plus (inl e) = let none : 1 ≡ 0 = ap length e in omega (arith, none)
no_plus (inr e) = let other : 43 ≡ 45 = ap (λ (l : List ℕ). get_or l 0 0) e in omega (arith, other)

point_alone : IsFraction (codes ".") → ⊥
point_alone (inl e) = absurd (cc)
point_alone (inr (x, ds, e, are)) = absurd (cc)

-- ---- values, with the bytes where they begin

-- a tab and a carriage return before `true`, a line feed and a blank after it
in_blanks : IsText 0 (2, boolean true) (0x09 ∷ 0x0d ∷ codes "true" ++ 0x0a ∷ 0x20 ∷ [])
in_blanks = (
  8,
  (
    (2, codes "true" ++ 0x0a ∷ 0x20 ∷ []),
    (6, 0x0a ∷ 0x20 ∷ []),
    (0x09 ∷ 0x0d ∷ [], (refl, refl), (refl, (refl, tt))),
    (refl, (refl, refl)),
    (0x0a ∷ 0x20 ∷ [], (refl, refl), (refl, (refl, tt))),
  ),
)

-- `{"a":null}`
a_member : IsText 1 (0, object (member 1 (codes "a") 5 null no_members)) (codes "{\"a\":null}")
a_member = (
  10,
  (
    (0, codes "{\"a\":null}"),
    (10, []),
    ([], (refl, refl), tt),
    (
      refl,
      (
        0,
        (1, codes "\"a\":null}"),
        refl,
        (refl, refl),
        (
          (4, codes ":null}"),
          (5, codes "null}"),
          (9, codes "}"),
          (
            (1, codes "\"a\":null}"),
            (4, codes ":null}"),
            ([], (refl, refl), tt),
            (refl, (codes "a", (refl, refl), record { all = itself 0x61 ∷ []; are = ((lit≤ tt, refl, refl), tt); written = refl; meant = refl })),
            ([], (refl, refl), tt),
          ),
          (refl, refl),
          ((5, codes "null}"), (9, codes "}"), ([], (refl, refl), tt), (refl, (refl, refl)), ([], (refl, refl), tt)),
          (refl, refl),
        ),
      ),
    ),
    ([], (refl, refl), tt),
  ),
)

-- an array is a level, and so is one in it
one_level : IsValue 1 (array no_elements) (0, codes "[]") (2, [])
one_level = (0, (1, codes "]"), refl, (refl, refl), ((1, codes "]"), ([], (refl, refl), tt), (refl, refl)))

no_level : IsValue 0 (array no_elements) (0, codes "[]") (2, []) → ⊥
no_level (m, p, e, here, rest) = let none : 0 ≡ suc m = e in omega (arith, none)

one_level_too_deep : IsValue 1 (array (element 1 (array no_elements) no_elements)) (0, codes "[[]]") (4, []) → ⊥
one_level_too_deep (m, p, e, here, (q, (r, s, before, (at, (k, t, f, there, inside)), after), more)) = omega (arith, e, f)

most_levels : max_depth ≡ 100
most_levels = refl

-- ---- faults

shown : fault_text 120 TooDeep ≡ codes "byte 120: TooDeep"
unfolding digits
shown = refl
