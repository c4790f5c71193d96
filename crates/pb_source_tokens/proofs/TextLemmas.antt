-- The lengths of texts and escapes are those that the rules of tokens name.
use Rattle.std.proofs.Common.{◌≡◌, ◌≢◌, ℕ, zero, suc, ◌+◌, ◌*◌, ◌%◌, ◌<◌, ◌≤◌, List, [], ◌∷◌, ◌++◌, length, take, drop, Bool, true, false, not, ◌&&◌, ◌||◌, ◌==◌, eqb, ltb, Option, Some, None, refl, ap, sym, ◌∙◌, subst, arith, ◌⊎◌, inl, inr, eq-eqb, ne_eqb, eqb-true, lt-ltb, ltb-true, append_assoc, length-append, length-drop, take-append-drop, take-add, drop-drop}
use Rattle.std.specs.Prelude.{is_some, nat_lt}
use Rattle.std.specs.Char.{digit_value, is_digit}
use Rattle.std.specs.Str.Parse.{AllDigits, digits_value_after}
use Rattle.pb_source_tokens.specs.Tokens.{short_escape, is_plain, AreDigits, Stops, Escape, Units, NoEscape}
use Rattle.pb_source_tokens.specs.Texts.{number_from, is_scalar, one_more, unicode_len, escape_len, units_len}
use Rattle.pb_source_tokens.proofs.AsciiLemmas.{or_cases, and_parts}
use Rattle.pb_source_tokens.proofs.CommentLemmas.{or_parts}
use Rattle.pb_source_tokens.proofs.TextSteps.{units_skip}
use Rattle.pb_source_tokens.proofs.DigitLemmas.{digit_there, digit_not, octal_is}

not_true : (a : Bool) → not a ≡ true → a ≡ false
not_true true h = absurd (cc h)
not_true false h = refl

-- ---- digits

is_none : (o : Option ℕ) → is_some o ≡ false → o ≡ None
is_none None h = refl
is_none (Some d) h = absurd (cc h)

is_there : (o : Option ℕ) → is_some o ≡ true → (v : ℕ) × (o ≡ Some v)
is_there None h = absurd (cc h)
is_there (Some d) h = (d, refl)

pub number_takes : (base n k v : ℕ) (ds rest : List ℕ) → AllDigits base ds → digits_value_after base n ds ≡ v → length ds ≤ k → (length ds ≡ k) ⊎ Stops (λ c. is_digit c base) rest
    → number_from base n k (ds ++ rest) ≡ (length ds, v)
number_takes base n zero v [] rest a h l s = ap (λ v. (0, v)) h
number_takes base n (suc k) v [] rest a h l (inl e) = absurd (omega (arith, e))
number_takes base n (suc k) v [] [] a h l (inr s) = ap (λ v. (0, v)) h
number_takes base n (suc k) v [] (c ∷ cs) a h l (inr s) = rw (digit_not base c s) (ap (λ v. (0, v)) h)
number_takes base n zero v (d ∷ ds) rest a h l s = absurd (omega arith)
number_takes base n (suc k) v (d ∷ ds) rest a h l s =
    rw (digit_there base d a.0) (ap (λ r. (suc r.0, r.1)) (number_takes base (n * base + digit_value d) k v ds rest a.1 h (omega arith) (less s)))
  where
    less : (suc (length ds) ≡ suc k) ⊎ Stops (λ c. is_digit c base) rest → (length ds ≡ k) ⊎ Stops (λ c. is_digit c base) rest
    less (inl e) = inl (omega arith)
    less (inr s) = inr s

-- what the digits at the front are
pub record Digits (base n k : ℕ) (bs : List ℕ) (found : ℕ × ℕ) : Type 0 where
  pub digits : AllDigits base (take found.0 bs)
  pub number : digits_value_after base n (take found.0 bs) ≡ found.1
  pub limit : found.0 ≤ k
  pub size : length (take found.0 bs) ≡ found.0
  pub stops : (found.0 ≡ k) ⊎ Stops (λ c. is_digit c base) (drop found.0 bs)

pub number_sound : (base n k : ℕ) (bs : List ℕ) → Digits base n k bs (number_from base n k bs)
number_sound base n zero bs = record { digits = tt; number = refl; limit = omega arith; size = refl; stops = inl refl }
number_sound base n (suc k) [] = record { digits = tt; number = refl; limit = omega arith; size = refl; stops = inr tt }
number_sound base n (suc k) (c ∷ cs) = by_digit (is_digit c base) refl (number_sound base (n * base + digit_value c) k cs)
  where
    by_digit : (b : Bool) → is_digit c base ≡ b → Digits base (n * base + digit_value c) k cs (number_from base (n * base + digit_value c) k cs)
        → Digits base n (suc k) (c ∷ cs) (number_from base n (suc k) (c ∷ cs))
    by_digit false e g =
        let whole : number_from base n (suc k) (c ∷ cs) ≡ (0, n) = rw (digit_not base c e) refl in
        subst (Digits base n (suc k) (c ∷ cs)) (sym whole) (record { digits = tt; number = refl; limit = omega arith; size = refl; stops = inr e })
    by_digit true e g =
        let r = number_from base (n * base + digit_value c) k cs in
        let l = ltb-true (digit_value c) base e in
        let whole : number_from base n (suc k) (c ∷ cs) ≡ (suc r.0, r.1) = rw (digit_there base c l) refl in
        subst (Digits base n (suc k) (c ∷ cs)) (sym whole)
        (record { digits = (l, g.digits); number = g.number; limit = (let l = g.limit in omega arith); size = ap suc g.size; stops = elim g.stops [ inl j ↦ inl (ap suc j) | inr s ↦ inr s ] })

-- ---- an escape has the length of one

octal_len : (k : ℕ) (cs : List ℕ) → k < 8 → escape_len ((48 + k) ∷ cs) ≡ (number_from 8 0 3 ((48 + k) ∷ cs)).0
octal_len zero cs l = refl
octal_len (suc zero) cs l = refl
octal_len (suc (suc zero)) cs l = refl
octal_len (suc (suc (suc zero))) cs l = refl
octal_len (suc (suc (suc (suc zero)))) cs l = refl
octal_len (suc (suc (suc (suc (suc zero))))) cs l = refl
octal_len (suc (suc (suc (suc (suc (suc zero)))))) cs l = refl
octal_len (suc (suc (suc (suc (suc (suc (suc zero))))))) cs l = refl
octal_len (suc (suc (suc (suc (suc (suc (suc (suc k)))))))) cs l = absurd (omega arith)

scalar_passes : (n : ℕ) → (n < 55296) ⊎ ((57343 < n) × (n < 1114112)) → is_scalar n ≡ true
scalar_passes n (inl l) = rw (lt-ltb n 55296 l) refl
scalar_passes n (inr (l, m)) = by_first (ltb n 55296)
  where
    by_first : (b : Bool) → b || (nat_lt 57343 n && nat_lt n 1114112) ≡ true
    by_first true = refl
    by_first false = rw (lt-ltb 57343 n l, lt-ltb n 1114112 m) refl

pub record IsEscape (e rest : List ℕ) : Type 0 where
  pub behind : List ℕ
  pub joined : e ≡ 92 ∷ behind
  pub some : 0 < length behind
  pub size : escape_len (behind ++ rest) ≡ length behind

unicode_size : (k n : ℕ) (ds rest : List ℕ) → AreDigits 16 ds n → is_scalar n ≡ true → length ds ≡ k → unicode_len k (number_from 16 0 k (ds ++ rest)) ≡ suc (length ds)
unicode_size k n ds rest a s l = rw (number_takes 16 0 k n ds rest a.0 a.1 (omega arith) (inl l), s, eq-eqb (length ds) k l) (ap suc (sym l))

hex_size : (n : ℕ) (ds rest : List ℕ) → AreDigits 16 ds n → (length ds ≡ 2) ⊎ ((length ds ≡ 1) × Stops (λ c. is_digit c 16) rest) → one_more (number_from 16 0 2 (ds ++ rest)).0 ≡ suc (length ds)
hex_size n ds rest a (inl l) = rw (number_takes 16 0 2 n ds rest a.0 a.1 (omega arith) (inl l)) (rw l refl)
hex_size n ds rest a (inr (l, s)) = rw (number_takes 16 0 2 n ds rest a.0 a.1 (omega arith) (inr s)) (rw l refl)

octal_size : (n : ℕ) (ds rest : List ℕ) → AreDigits 8 ds n → 0 < length ds → length ds ≤ 3 → (length ds ≡ 3) ⊎ Stops (λ c. is_digit c 8) rest → escape_len (ds ++ rest) ≡ length ds
octal_size n [] rest a l m s = absurd (omega arith)
octal_size n (d ∷ ds) rest a l m s =
    let o = octal_is d a.0.0 in
    subst (λ d. escape_len (d ∷ ds ++ rest) ≡ (number_from 8 0 3 (d ∷ ds ++ rest)).0) (sym o) (octal_len (digit_value d) (ds ++ rest) a.0.0) ∙ ap (λ r. r.0) (number_takes 8 0 3 n (d ∷ ds) rest a.0 a.1 m s)

pub escape_is : {e v rest : List ℕ} → Escape e v rest → IsEscape e rest
escape_is (Escape.short {c} h) = record { behind = c ∷ []; joined = refl; some = omega arith; size = rw (ap is_some h) refl }
escape_is (Escape.hexadecimal {c} {n} {ds} {rest} (inl e) a s) =
    record { behind = c ∷ ds; joined = refl; some = omega arith; size = subst (λ c. escape_len (c ∷ ds ++ rest) ≡ suc (length ds)) (sym e) (hex_size n ds rest a s) }
escape_is (Escape.hexadecimal {c} {n} {ds} {rest} (inr e) a s) =
    record { behind = c ∷ ds; joined = refl; some = omega arith; size = subst (λ c. escape_len (c ∷ ds ++ rest) ≡ suc (length ds)) (sym e) (hex_size n ds rest a s) }
escape_is (Escape.octal {n} {ds} {rest} a (inl l)) = record { behind = ds; joined = refl; some = omega arith; size = octal_size n ds rest a (omega arith) (omega arith) (inl l) }
escape_is (Escape.octal {n} {ds} {rest} a (inr (l, m, s))) = record { behind = ds; joined = refl; some = l; size = octal_size n ds rest a l (omega arith) (inr s) }
escape_is (Escape.unicode {c} {n} {ds} {rest} (inl (e, l)) a s) =
    record { behind = c ∷ ds; joined = refl; some = omega arith; size = subst (λ c. escape_len (c ∷ ds ++ rest) ≡ suc (length ds)) (sym e) (unicode_size 4 n ds rest a (scalar_passes n s) l) }
escape_is (Escape.unicode {c} {n} {ds} {rest} (inr (e, l)) a s) =
    record { behind = c ∷ ds; joined = refl; some = omega arith; size = subst (λ c. escape_len (c ∷ ds ++ rest) ≡ suc (length ds)) (sym e) (unicode_size 8 n ds rest a (scalar_passes n s) l) }

pub no_escape : (cs : List ℕ) → escape_len cs ≡ 0 → NoEscape (92 ∷ cs)
no_escape cs z e v rest h j =
    let i = escape_is h in
    let tail : cs ≡ i.behind ++ rest = ap (drop 1) (j ∙ ap (λ e. e ++ rest) i.joined) in
    none (length i.behind) i.some (sym i.size ∙ ap escape_len (sym tail) ∙ z)
  where
    none : (n : ℕ) → 0 < n → n ≡ 0 → ⊥
    none n l e = omega arith

-- ---- and there is one where the length is not 0

abbrev pub EscapeOf : ℕ → List ℕ → Type 0
EscapeOf n bs = (n ≤ length bs) × (length (take n bs) ≡ n) × (v : List ℕ) × Escape (92 ∷ take n bs) v (drop n bs)

some_more : (n : ℕ) → one_more n ≢ 0 → (0 < n) × (one_more n ≡ suc n)
some_more zero h = absurd (h refl)
some_more (suc n) h = (omega arith, rw (ne_eqb (suc n) 0 (λ e. omega arith)) refl)

room_of : (n : ℕ) (bs : List ℕ) → length (take n bs) ≡ n → n ≤ length bs
room_of zero bs h = omega arith
room_of (suc n) [] h = absurd (omega arith)
room_of (suc n) (c ∷ cs) h = let r = room_of n cs (omega arith) in omega arith

unicode_some : (k : ℕ) (found : ℕ × ℕ) → unicode_len k found ≢ 0 → (found.0 ≡ k) × (is_scalar found.1 ≡ true) × (unicode_len k found ≡ suc k)
unicode_some k found h = by_tests (eqb found.0 k) (is_scalar found.1) refl refl
  where
    by_tests : (a b : Bool) → eqb found.0 k ≡ a → is_scalar found.1 ≡ b → (found.0 ≡ k) × (is_scalar found.1 ≡ true) × (unicode_len k found ≡ suc k)
    by_tests true true p q = (eqb-true found.0 k p, q, rw (p, q) refl)
    by_tests true false p q = absurd (h (rw (p, q) refl))
    by_tests false b p q = absurd (h (rw p refl))

scalar_is : (n : ℕ) → is_scalar n ≡ true → (n < 55296) ⊎ ((57343 < n) × (n < 1114112))
scalar_is n h =
    elim (or_cases (ltb n 55296) (nat_lt 57343 n && nat_lt n 1114112) h) [
      | inl e ↦ inl (ltb-true n 55296 e)
      | inr e ↦ (let p = and_parts (nat_lt 57343 n) (nat_lt n 1114112) e in inr (ltb-true 57343 n p.0, ltb-true n 1114112 p.1))
    ]

short_there : (c : ℕ) (cs : List ℕ) → is_some (short_escape c) ≡ true → EscapeOf 1 (c ∷ cs)
short_there c cs h = let v = is_there (short_escape c) h in (omega arith, refl, v.0 ∷ [], Escape.short v.1)

hex_there : (c : ℕ) (cs : List ℕ) → (c ≡ 120) ⊎ (c ≡ 88) → 0 < (number_from 16 0 2 cs).0 → EscapeOf (suc (number_from 16 0 2 cs).0) (c ∷ cs)
hex_there c cs e l =
    let r = number_from 16 0 2 cs in
    let g = number_sound 16 0 2 cs in
    let m = g.limit in
    let w = room_of r.0 cs g.size in
    (omega arith, ap suc g.size, r.1 ∷ [], Escape.hexadecimal e (g.digits, g.number) (lengths r.0 (length (take r.0 cs)) g.size l m g.stops))
  where
    lengths : {P : Type 0} (n k : ℕ) → k ≡ n → 0 < n → n ≤ 2 → (n ≡ 2) ⊎ P → (k ≡ 2) ⊎ ((k ≡ 1) × P)
    lengths zero k e l m s = absurd (omega arith)
    lengths (suc zero) k e l m (inl f) = absurd (omega arith)
    lengths (suc zero) k e l m (inr s) = inr (e, s)
    lengths (suc (suc n)) k e l m s = inl (omega arith)

octal_there : (c : ℕ) (cs : List ℕ) → 0 < (number_from 8 0 3 (c ∷ cs)).0 → EscapeOf (number_from 8 0 3 (c ∷ cs)).0 (c ∷ cs)
octal_there c cs l =
    let r = number_from 8 0 3 (c ∷ cs) in
    let g = number_sound 8 0 3 (c ∷ cs) in
    let m = g.limit in
    (room_of r.0 (c ∷ cs) g.size, g.size, r.1 % 256 ∷ [], Escape.octal (g.digits, g.number) (lengths r.0 (length (take r.0 (c ∷ cs))) g.size l m g.stops))
  where
    lengths : {P : Type 0} (n k : ℕ) → k ≡ n → 0 < n → n ≤ 3 → (n ≡ 3) ⊎ P → (k ≡ 3) ⊎ ((0 < k) × (k < 3) × P)
    lengths zero k e l m s = absurd (omega arith)
    lengths (suc n) k e l m (inl f) = inl (omega arith)
    lengths (suc zero) k e l m (inr s) = inr (omega arith, omega arith, s)
    lengths (suc (suc zero)) k e l m (inr s) = inr (omega arith, omega arith, s)
    lengths (suc (suc (suc n))) k e l m (inr s) = inl (omega arith)

unicode_there : (c k : ℕ) (cs : List ℕ) → ((c ≡ 117) × (k ≡ 4)) ⊎ ((c ≡ 85) × (k ≡ 8)) → (number_from 16 0 k cs).0 ≡ k → is_scalar (number_from 16 0 k cs).1 ≡ true → EscapeOf (suc k) (c ∷ cs)
unicode_there c k cs e l s =
    let r = number_from 16 0 k cs in
    let g = number_sound 16 0 k cs in
    let size : length (take k cs) ≡ k = subst (λ n. length (take n cs) ≡ n) l g.size in
    let w = room_of k cs size in
    let digits : AreDigits 16 (take k cs) r.1 = subst (λ n. AreDigits 16 (take n cs) r.1) l (g.digits, g.number) in
    (omega arith, ap suc size, _, Escape.unicode (elim e [ inl f ↦ inl (f.0, size ∙ f.1) | inr f ↦ inr (f.0, size ∙ f.1) ]) digits (scalar_is r.1 s))

pub escape_there : (bs : List ℕ) → escape_len bs ≢ 0 → EscapeOf (escape_len bs) bs
escape_there [] z = absurd (z refl)
escape_there (c ∷ cs) z = by_tests (is_some (short_escape c)) (c == 120 || c == 88) (eqb c 117) (eqb c 85) refl refl refl refl
  where
    at : (n : ℕ) → escape_len (c ∷ cs) ≡ n → (n ≢ 0 → EscapeOf n (c ∷ cs)) → EscapeOf (escape_len (c ∷ cs)) (c ∷ cs)
    at n e f = subst (λ n. EscapeOf n (c ∷ cs)) (sym e) (f (λ k. z (e ∙ k)))

    by_tests : (s x u w : Bool) → is_some (short_escape c) ≡ s → (c == 120 || c == 88) ≡ x → eqb c 117 ≡ u → eqb c 85 ≡ w → EscapeOf (escape_len (c ∷ cs)) (c ∷ cs)
    by_tests true x u w hs hx hu hw = at 1 (rw hs refl) (λ k. short_there c cs hs)
    by_tests false true u w hs hx hu hw =
        at (one_more (number_from 16 0 2 cs).0) (rw (hs, hx) refl)
        (λ k. let m = some_more (number_from 16 0 2 cs).0 k in
        subst (λ n. EscapeOf n (c ∷ cs)) (sym m.1) (hex_there c cs (elim (or_cases (eqb c 120) (eqb c 88) hx) [ inl e ↦ inl (eqb-true c 120 e) | inr e ↦ inr (eqb-true c 88 e) ]) m.0))
    by_tests false false true w hs hx hu hw =
        at (unicode_len 4 (number_from 16 0 4 cs)) (rw (hs, hx, hu) refl)
        (λ k. let m = unicode_some 4 (number_from 16 0 4 cs) k in subst (λ n. EscapeOf n (c ∷ cs)) (sym m.2) (unicode_there c 4 cs (inl (eqb-true c 117 hu, refl)) m.0 m.1))
    by_tests false false false true hs hx hu hw =
        at (unicode_len 8 (number_from 16 0 8 cs)) (rw (hs, hx, hu, hw) refl)
        (λ k. let m = unicode_some 8 (number_from 16 0 8 cs) k in subst (λ n. EscapeOf n (c ∷ cs)) (sym m.2) (unicode_there c 8 cs (inr (eqb-true c 85 hw, refl)) m.0 m.1))
    by_tests false false false false hs hx hu hw =
        at (number_from 8 0 3 (c ∷ cs)).0 (rw (hs, hx, hu, hw) refl) (λ k. octal_there c cs (pos (number_from 8 0 3 (c ∷ cs)).0 k))
      where
        pos : (n : ℕ) → n ≢ 0 → 0 < n
        pos zero h = absurd (h refl)
        pos (suc n) h = omega arith

-- ---- units

-- the bytes that a text's rules call plain
pub record Plain (quote c : ℕ) : Type 0 where
  pub quote_not : eqb c quote ≡ false
  pub slash_not : eqb c 92 ≡ false
  pub line_not : eqb c 10 ≡ false
  pub nul_not : eqb c 0 ≡ false

pub plain_is : (quote c : ℕ) → is_plain quote c ≡ true → Plain quote c
plain_is quote c h =
    let a = or_parts (eqb c quote || eqb c 92 || eqb c 10) (eqb c 0) (not_true (eqb c quote || eqb c 92 || eqb c 10 || eqb c 0) h) in
    let b = or_parts (eqb c quote || eqb c 92) (eqb c 10) a.0 in
    let d = or_parts (eqb c quote) (eqb c 92) b.0 in
    record { quote_not = d.0; slash_not = d.1; line_not = b.1; nul_not = a.1 }

pub slash_plain : (quote : ℕ) → is_plain quote 92 ≡ false
slash_plain quote = by_test (eqb 92 quote)
  where
    by_test : (b : Bool) → not (b || true || false || false) ≡ false
    by_test true = refl
    by_test false = refl

-- one escape, and then the units after it
units_step : (quote : ℕ) (cs : List ℕ) → escape_len cs ≢ 0 → escape_len cs ≤ length cs → units_len quote (92 ∷ cs) ≡ suc (escape_len cs + units_len quote (drop (escape_len cs) cs))
units_step quote cs z l = rw (slash_plain quote) (rw (ne_eqb (escape_len cs) 0 z) (ap suc (units_skip quote (escape_len cs) cs l)))

pub record UnitsAt (quote : ℕ) (bs : List ℕ) (n : ℕ) : Type 0 where
  pub room : n ≤ length bs
  pub meant : List ℕ
  pub units : Units quote (take n bs) meant (drop n bs)
  pub stuck : units_len quote (drop n bs) ≡ 0

pub units_there : (m quote : ℕ) (bs : List ℕ) → length bs ≤ m → UnitsAt quote bs (units_len quote bs)
units_there m quote [] l = record { room = omega arith; meant = []; units = Units.none; stuck = refl }
units_there zero quote (c ∷ cs) l = absurd (omega arith)
units_there (suc m) quote (c ∷ cs) l = by_tests (is_plain quote c) (eqb c 92) (eqb (escape_len cs) 0) refl refl refl (λ ds k. units_there m quote ds k)
  where
    at : (n : ℕ) → units_len quote (c ∷ cs) ≡ n → UnitsAt quote (c ∷ cs) n → UnitsAt quote (c ∷ cs) (units_len quote (c ∷ cs))
    at n e = subst (UnitsAt quote (c ∷ cs)) (sym e)

    not_zero : (n : ℕ) → eqb n 0 ≡ false → n ≢ 0
    not_zero n e z = absurd (cc (sym (eq-eqb n 0 z) ∙ e))

    by_tests : (p s z : Bool) → is_plain quote c ≡ p → eqb c 92 ≡ s → eqb (escape_len cs) 0 ≡ z → ((ds : List ℕ) → length ds ≤ m → UnitsAt quote ds (units_len quote ds))
        → UnitsAt quote (c ∷ cs) (units_len quote (c ∷ cs))
    by_tests true s z hp hs hz f =
        let g = f cs (omega arith) in
        let w = g.room in
        at (suc (units_len quote cs)) (rw hp refl) (record { room = omega arith; meant = c ∷ g.meant; units = Units.plain hp g.units; stuck = g.stuck })
    by_tests false true false hp hs hz f =
        let x = escape_there cs (not_zero (escape_len cs) hz) in
        let k = escape_len cs in
        let size = length-drop k cs in
        let g = f (drop k cs) (omega arith) in
        let n = units_len quote (drop k cs) in
        let w = g.room in
        let wx = x.0 in
        let slash : c ≡ 92 = eqb-true c 92 hs in
        let left : drop n (drop k cs) ≡ drop (k + n) cs = drop-drop n k cs in
        let whole : units_len quote (c ∷ cs) ≡ suc (k + n) = subst (λ c. units_len quote (c ∷ cs) ≡ suc (k + n)) (sym slash) (units_step quote cs (not_zero k hz) x.0) in
        at (suc (k + n)) whole (record {
          room = omega arith;
          meant = x.2 ++ g.meant;
          units = Units.escape {e = 92 ∷ take k cs} {cs = take n (drop k cs)} (subst (Escape (92 ∷ take k cs) x.2) (sym (ap (λ r. take n (drop k cs) ++ r) (sym left) ∙ take-append-drop n (drop k cs))) x.3)
              (subst (Units quote (take n (drop k cs)) g.meant) left g.units) (ap (λ c. c ∷ take (k + n) cs) slash ∙ ap (λ r. 92 ∷ r) (take-add k n cs));
          stuck = ap (units_len quote) (sym left) ∙ g.stuck;
        })
    by_tests false true true hp hs hz f =
        let e : units_len quote (c ∷ cs) ≡ 0 = rw (hp, hs, hz) refl in
        at 0 e (record { room = omega arith; meant = []; units = Units.none; stuck = e })
    by_tests false false z hp hs hz f =
        let e : units_len quote (c ∷ cs) ≡ 0 = rw (hp, hs) refl in
        at 0 e (record { room = omega arith; meant = []; units = Units.none; stuck = e })

joined_three : (t cs rest : List ℕ) → drop (length t) (t ++ (cs ++ rest)) ≡ cs ++ rest
joined_three t cs rest = Rattle.std.proofs.Math.Seq.drop-append_seam t (cs ++ rest)

-- the units of a text are as many as they can be before what is stuck
pub units_count : {quote : ℕ} {front vs rest : List ℕ} → Units quote front vs rest → units_len quote (front ++ rest) ≡ length front + units_len quote rest
units_count {quote} {rest = rest} (Units.none) = zero_first (units_len quote rest)
  where
    zero_first : (n : ℕ) → n ≡ 0 + n
    zero_first n = omega arith
units_count {quote} {rest = rest} (Units.plain {c} {cs} p u) = rw p (ap suc (units_count u) ∙ next (length cs) (units_len quote rest))
  where
    next : (k n : ℕ) → suc (k + n) ≡ suc k + n
    next k n = omega arith
units_count {quote} {rest = rest} (Units.escape {e} {v} {cs} {vs} {es} x u j) =
    let i = escape_is x in
    let t = i.behind in
    let all = t ++ (cs ++ rest) in
    let n = units_len quote rest in
    let size = i.size in
    let long = length-append t (cs ++ rest) in
    let word : es ≡ 92 ∷ t ++ cs = j ∙ ap (λ e. e ++ cs) i.joined in
    let whole : es ++ rest ≡ 92 ∷ all = ap (λ e. e ++ rest) word ∙ ap (λ r. 92 ∷ r) (append_assoc t cs rest) in
    let step : units_len quote (92 ∷ all) ≡ suc (length t + units_len quote (cs ++ rest)) =
    units_step quote all (λ z. none (length t) i.some (sym size ∙ z)) (room (escape_len all) (length t) (length all) (length (cs ++ rest)) size long)
    ∙ ap (λ k. suc (k + units_len quote (drop k all))) size ∙ ap (λ r. suc (length t + units_len quote r)) (joined_three t cs rest) in
    ap (units_len quote) whole ∙ step ∙ ap (λ k. suc (length t + k)) (units_count u) ∙ next (length t) (length cs) n (length es) (ap length word ∙ ap suc (length-append t cs))
  where
    none : (n : ℕ) → 0 < n → n ≡ 0 → ⊥
    none n l e = omega arith

    room : (k t a b : ℕ) → k ≡ t → a ≡ t + b → k ≤ a
    room k t a b e f = omega arith

    next : (t c n e : ℕ) → e ≡ suc (t + c) → suc (t + (c + n)) ≡ e + n
    next t c n e h = omega arith
