-- Bytes in base64, as they are written.
use Rattle.std.proofs.Common.{◌≡◌, ℕ, zero, suc, ◌+◌, ◌-◌, ◌*◌, ◌/◌, ◌%◌, ◌<◌, ◌≤◌, Bool, true, false, eqb, List, [], ◌∷◌, ◌++◌, length, get_or, replicate, refl, ap, ◌∙◌, inl, inr, arith, append-nil, take_all, take_at, length-append, get_or-append-add, ne_eqb, eq-eqb, Option, Some, None}
use Rattle.std.proofs.lemmas.Bool.{agree_below_at, cases_Bool, cases_eq, eqb-true}
use Rattle.std.proofs.lemmas.List.{get_or_append_left, get_or_at}
use Rattle.base64.specs.Engines.{standard, standard_no_pad, url_safe, url_safe_no_pad}
use Rattle.base64.specs.GeneralPurpose.{encode_of, engine_symbols, IsBytes}
use Rattle.base64.specs.Rfc4648.{encode_symbols, padding_len}
use Rattle.pb_json_scalars.specs.Base64.{base64_bytes, bytes_of, joined, padding, pads_at, symbol, without_padding}

abbrev holds : ℕ → Option ℕ → Bool
holds v None = false
holds v (Some x) = eqb x v

held : (v : ℕ) (o : Option ℕ) → holds v o ≡ true → o ≡ Some v
held v None h = absurd (cc)
held v (Some x) h = ap (λ (k : ℕ). Some k) (eqb-true x v h)

-- each number of six bits has its character in the table
abbrev IsTable : List ℕ → Type 0
IsTable t = (v : ℕ) → v < 64 → symbol (get_or t v 0) ≡ Some v

standard_table : IsTable (engine_symbols standard)
standard_table v small = held v _ (agree_below_at (λ k. holds k (symbol (get_or (engine_symbols standard) k 0))) (λ k. true) 64 v refl small)

url_table : IsTable (engine_symbols url_safe)
url_table v small = held v _ (agree_below_at (λ k. holds k (symbol (get_or (engine_symbols url_safe) k 0))) (λ k. true) 64 v refl small)

symbols_read : (t : List ℕ) → IsTable t → (m : List ℕ) → IsBytes m → bytes_of (encode_symbols t m) ≡ Some m
unfolding encode_symbols
symbols_read t table [] h = refl
symbols_read t table (a ∷ []) h =
    let la : a < 256 = h 0 in
    let s0 = table (a / 4) (omega arith) in
    let s1 = table (a % 4 * 16) (omega arith) in
    let e0 : a / 4 * 4 + a % 4 * 16 / 16 ≡ a = omega arith in
    rw (s0, s1, e0) refl
symbols_read t table (a ∷ b ∷ []) h =
    let la : a < 256 = h 0 in
    let lb : b < 256 = h 1 in
    let s0 = table (a / 4) (omega arith) in
    let s1 = table (a % 4 * 16 + b / 16) (omega arith) in
    let s2 = table (b % 16 * 4) (omega arith) in
    let e0 : a / 4 * 4 + (a % 4 * 16 + b / 16) / 16 ≡ a = omega arith in
    let e1 : (a % 4 * 16 + b / 16) % 16 * 16 + b % 16 * 4 / 4 ≡ b = omega arith in
    rw (s0, s1, s2, e0, e1) refl
symbols_read t table (a ∷ b ∷ c ∷ rest) h =
    let la : a < 256 = h 0 in
    let lb : b < 256 = h 1 in
    let lc : c < 256 = h 2 in
    let s0 = table (a / 4) (omega arith) in
    let s1 = table (a % 4 * 16 + b / 16) (omega arith) in
    let s2 = table (b % 16 * 4 + c / 64) (omega arith) in
    let s3 = table (c % 64) (omega arith) in
    let e0 : a / 4 * 4 + (a % 4 * 16 + b / 16) / 16 ≡ a = omega arith in
    let e1 : (a % 4 * 16 + b / 16) % 16 * 16 + (b % 16 * 4 + c / 64) / 4 ≡ b = omega arith in
    let e2 : (b % 16 * 4 + c / 64) % 4 * 64 + c % 64 ≡ c = omega arith in
    rw (s0, s1, s2, s3, e0, e1, e2)
    (ap (joined (Some (a ∷ b ∷ c ∷ []))) (symbols_read t table rest (λ i. h (suc (suc (suc i))))))

-- ---- no character but those of padding is =

no_pad : (c v : ℕ) → symbol c ≡ Some v → eqb c 61 ≡ false
no_pad c v h = elim (cases_eq c 61) [ inl e ↦ absurd (let no : None ≡ Some v = rw e at h in cc) | inr ne ↦ ne_eqb c 61 ne ]

module _ (t : List ℕ) (table : IsTable t) where
  at_value : (v : ℕ) → v < 64 → eqb (get_or t v 0) 61 ≡ false
  at_value v small = no_pad (get_or t v 0) v (table v small)

  plain : (m : List ℕ) → IsBytes m → (i : ℕ) → eqb (get_or (encode_symbols t m) i 0) 61 ≡ false
  unfolding encode_symbols
  plain [] h i = refl
  plain (a ∷ []) h zero = let la : a < 256 = h 0 in at_value (a / 4) (omega arith)
  plain (a ∷ []) h (suc zero) = at_value (a % 4 * 16) (omega arith)
  plain (a ∷ []) h (suc (suc i)) = refl
  plain (a ∷ b ∷ []) h zero = let la : a < 256 = h 0 in at_value (a / 4) (omega arith)
  plain (a ∷ b ∷ []) h (suc zero) = let lb : b < 256 = h 1 in at_value (a % 4 * 16 + b / 16) (omega arith)
  plain (a ∷ b ∷ []) h (suc (suc zero)) = at_value (b % 16 * 4) (omega arith)
  plain (a ∷ b ∷ []) h (suc (suc (suc i))) = refl
  plain (a ∷ b ∷ c ∷ rest) h zero = let la : a < 256 = h 0 in at_value (a / 4) (omega arith)
  plain (a ∷ b ∷ c ∷ rest) h (suc zero) = let lb : b < 256 = h 1 in at_value (a % 4 * 16 + b / 16) (omega arith)
  plain (a ∷ b ∷ c ∷ rest) h (suc (suc zero)) = let lc : c < 256 = h 2 in at_value (b % 16 * 4 + c / 64) (omega arith)
  plain (a ∷ b ∷ c ∷ rest) h (suc (suc (suc zero))) = at_value (c % 64) (omega arith)
  plain (a ∷ b ∷ c ∷ rest) h (suc (suc (suc (suc i)))) = plain rest (λ j. h (suc (suc (suc j)))) i

-- ---- padding makes groups of four

groups : (t m : List ℕ) → (length (encode_symbols t m) + padding_len (length m)) % 4 ≡ 0
unfolding encode_symbols
groups t [] = refl
groups t (a ∷ []) = refl
groups t (a ∷ b ∷ []) = refl
groups t (a ∷ b ∷ c ∷ rest) =
    let before = groups t rest in
    let same : (length rest + 3) % 3 ≡ length rest % 3 = omega arith in
    let three : suc (suc (suc (length rest))) ≡ length rest + 3 = omega arith in
    rw (three, same) (omega (arith, before))

module _ (x : List ℕ) (clean : (i : ℕ) → eqb (get_or x i 0) 61 ≡ false) where
  none_padded : padding x ≡ 0
  none_padded = elim (cases_Bool (eqb (length x % 4) 0)) [ inl e ↦ rw (e, clean (length x - 1)) refl | inr e ↦ rw e refl ]

  without_none : without_padding x ≡ x
  without_none = let none = none_padded in take_all (length x - padding x) x (omega arith)

  without_one : (length x + 1) % 4 ≡ 0 → without_padding (x ++ 61 ∷ []) ≡ x
  without_one four =
      let s = x ++ 61 ∷ [] in
      let long : length s ≡ length x + 1 = length-append x (61 ∷ []) in
      let some : 0 < length x = omega arith in
      let multiple : eqb (length s % 4) 0 ≡ true = eq-eqb (length s % 4) 0 (ap (λ (k : ℕ). k % 4) long ∙ four) in
      let first : pads_at 1 s ≡ true =
      eq-eqb (get_or s (length s - 1) 0) 61 (get_or_at x 61 [] 0 (length s - 1) (omega arith)) in
      let second : pads_at 2 s ≡ false =
      ap (λ (k : ℕ). eqb k 61) (get_or_append_left x (61 ∷ []) 0 (length s - 2) (omega arith)) ∙ clean (length s - 2) in
      let one : padding s ≡ 1 = rw (multiple, first, second) refl in
      take_at x (61 ∷ []) (length s - padding s) (omega (arith, one))

  without_two : (length x + 2) % 4 ≡ 0 → without_padding (x ++ 61 ∷ 61 ∷ []) ≡ x
  without_two four =
      let s = x ++ 61 ∷ 61 ∷ [] in
      let long : length s ≡ length x + 2 = length-append x (61 ∷ 61 ∷ []) in
      let multiple : eqb (length s % 4) 0 ≡ true = eq-eqb (length s % 4) 0 (ap (λ (k : ℕ). k % 4) long ∙ four) in
      let last : length s - 1 ≡ length x + 1 = omega arith in
      let first : pads_at 1 s ≡ true =
      eq-eqb (get_or s (length s - 1) 0) 61 (ap (λ (k : ℕ). get_or s k 0) last ∙ get_or-append-add x (61 ∷ 61 ∷ []) 1 0) in
      let second : pads_at 2 s ≡ true =
      eq-eqb (get_or s (length s - 2) 0) 61 (get_or_at x 61 (61 ∷ []) 0 (length s - 2) (omega arith)) in
      let two : padding s ≡ 2 = rw (multiple, first, second) refl in
      take_at x (61 ∷ 61 ∷ []) (length s - padding s) (omega (arith, two))

  without_any : (k : ℕ) → k ≤ 2 → (length x + k) % 4 ≡ 0 → without_padding (x ++ replicate k 61) ≡ x
  without_any zero few four = ap without_padding (append-nil x) ∙ without_none
  without_any (suc zero) few four = without_one four
  without_any (suc (suc zero)) few four = without_two four
  without_any (suc (suc (suc k))) few four = absurd (omega arith)

module _ (t : List ℕ) (table : IsTable t) (m : List ℕ) (h : IsBytes m) where
  padded_read : base64_bytes (encode_symbols t m ++ replicate (padding_len (length m)) 61) ≡ Some m
  padded_read =
      ap bytes_of (without_any (encode_symbols t m) (plain t table m h) (padding_len (length m)) (omega arith) (groups t m)) ∙ symbols_read t table m h

  unpadded_read : base64_bytes (encode_symbols t m ++ []) ≡ Some m
  unpadded_read =
      ap base64_bytes (append-nil (encode_symbols t m)) ∙ ap bytes_of (without_none (encode_symbols t m) (plain t table m h)) ∙ symbols_read t table m h

pub standard_read : (m : List ℕ) → IsBytes m → base64_bytes (encode_of standard m) ≡ Some m
standard_read m h = padded_read (engine_symbols standard) standard_table m h

pub standard_no_pad_read : (m : List ℕ) → IsBytes m → base64_bytes (encode_of standard_no_pad m) ≡ Some m
standard_no_pad_read m h = unpadded_read (engine_symbols standard) standard_table m h

pub url_safe_read : (m : List ℕ) → IsBytes m → base64_bytes (encode_of url_safe m) ≡ Some m
url_safe_read m h = padded_read (engine_symbols url_safe) url_table m h

pub url_safe_no_pad_read : (m : List ℕ) → IsBytes m → base64_bytes (encode_of url_safe_no_pad m) ≡ Some m
url_safe_no_pad_read m h = unpadded_read (engine_symbols url_safe) url_table m h
