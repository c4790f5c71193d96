-- The reader of integers and floating literals reads them.
use Rattle.std.proofs.Common.{◌≡◌, ℕ, zero, suc, ◌-◌, ◌≤◌, length-drop, take, drop, List, [], ◌∷◌, ◌++◌, length, Bool, true, false, ◌||◌, ◌&&◌, ◌==◌, is_some, nat_lt, ltb-true, lt-ltb, codes, refl, ap, sym, ◌∙◌, subst, append-nil, Option, Some, None, arith, ◌⊎◌, inl, inr}
use Rattle.std.specs.Prelude.{if◌then◌else◌}
use Rattle.std.specs.List.{list_all}
use Rattle.std.specs.Char.{is_digit, digit_value}
use Rattle.std.specs.Str.{bytes_eq}
use Rattle.std.proofs.lemmas.Bool.{false≢true, and_parts, or_cases, eqb-true}
use Rattle.pb_source_tokens.specs.declared.parsing.floats.Begun.{Begun}
use Rattle.pb_source_tokens.specs.declared.parsing.floats.Begun.TheVariants.{Whole, Open, MayPoint, MustPoint}
use Rattle.pb_source_tokens.specs.Integers.{number_in, integer_of}
use Rattle.pb_source_tokens.specs.Tokens.{Stops}
use Rattle.pb_source_tokens.specs.Floats.{is_decimal, is_decimals, after_digits, exponent_in, power_in, scaled_in, fraction_in, begun_by, begun_of, begun_in}
use Rattle.pb_source_tokens.specs.Symbols.{Symbol, word, number, text, sign}
use Rattle.pb_source_tokens.specs.Language.{Language, ◌▸◌, ◌or◌, one, nothing, Rules}
use Rattle.pb_source_tokens.specs.Phrases.{mark, integer, decimals, exponent_end, powered, exponent, floating}
use Rattle.pb_source_tokens.specs.Readers.Forms.{first_passes, is_mark, answer, chain, symbol, plain, mark_reader}
use Rattle.pb_source_tokens.specs.Readers.Phrases.{is_dot, decimals_in, sign_reader, exponent_end_reader, scaled_reader, begins_fraction, fraction_reader, begun_end_reader, numeral_reader}
use Rattle.pb_source_tokens.proofs.ReaderLaws.{Reads, IsStop, Chained, reads_chain}
use Rattle.pb_source_tokens.proofs.Parts.{Answered, reads_answer, reads_stop}
use Rattle.pb_source_tokens.proofs.Compose.{never, any_stop, reads_behind, reads_either, said_so}
use Rattle.pb_source_tokens.proofs.Heads.{headed_one, headed_then, fails_rest, front_of, front_of_one}
use Rattle.pb_source_tokens.proofs.SymbolTests.{reads_plain, reads_mark}

-- ---- words that are decimals, integers, or have an exponent

all_digits : (b : Bool) (n : ℕ) → is_some (if b then Some n else None) ≡ true → b ≡ true
all_digits true n h = refl
all_digits false n h = absurd (false≢true h)

if_some : (b : Bool) (n m : ℕ) → (if b then Some n else None) ≡ Some m → b ≡ true
if_some true n m h = refl
if_some false n m h = absurd (cc h)

none_after : (ds : List ℕ) → list_all (λ c. is_digit c 10) ds ≡ true → after_digits ds ≡ []
none_after [] h = refl
none_after (d ∷ ds) h = let p = and_parts (is_digit d 10) (list_all (λ c. is_digit c 10) ds) h in rw p.0 (none_after ds p.1)

-- the digits at the front
dropped_digits : (n : ℕ) (bs : List ℕ) → n ≤ length bs → list_all is_decimal (take n bs) ≡ true → Stops is_decimal (drop n bs) → drop n bs ≡ after_digits bs
dropped_digits zero [] l h s = refl
dropped_digits zero (b ∷ bs) l h s = rw s refl
dropped_digits (suc n) [] l h s = refl
dropped_digits (suc n) (b ∷ bs) l h s =
    let p = and_parts (is_decimal b) (list_all is_decimal (take n bs)) h in
    dropped_digits n bs (omega arith) p.1 s ∙ (rw p.0 refl)

take_whole : (k : ℕ) (bs : List ℕ) → length bs ≤ k → take k bs ≡ bs
take_whole zero [] l = refl
take_whole zero (b ∷ bs) l = absurd (omega arith)
take_whole (suc k) [] l = refl
take_whole (suc k) (b ∷ bs) l = ap (λ bs. b ∷ bs) (take_whole k bs (omega arith))

pub rest_digits : (n : ℕ) (bs : List ℕ) → n ≤ length bs → list_all is_decimal (take n bs) ≡ true → Stops is_decimal (drop n bs)
    → take (length bs - n) (drop n bs) ≡ after_digits bs
rest_digits n bs l h s = take_whole (length bs - n) (drop n bs) (let e = length-drop n bs in omega arith) ∙ dropped_digits n bs l h s

no_power : (w : List ℕ) → is_decimals w ≡ true → power_in w ≡ None
no_power [] h = refl
no_power (c ∷ cs) h =
    let p = and_parts (is_digit c 10) (list_all (λ c. is_digit c 10) cs) (all_digits _ _ h) in
    rw p.0 (ap exponent_in (none_after cs p.1))

more_digits : (c : ℕ) → is_digit c 8 ≡ true → is_digit c 10 ≡ true
more_digits c h = let l = ltb-true (digit_value c) 8 h in lt-ltb (digit_value c) 10 (omega arith)

all_more : (ds : List ℕ) → list_all (λ c. is_digit c 8) ds ≡ true → list_all (λ c. is_digit c 10) ds ≡ true
all_more [] h = refl
all_more (d ∷ ds) h = let p = and_parts (is_digit d 8) (list_all (λ c. is_digit c 8) ds) h in rw (more_digits d p.0) (all_more ds p.1)

-- a word of an integer that is not decimal digits alone has no exponent's letter at its end
integer_no_power : (w : List ℕ) (n : ℕ) (o : Bool) → integer_of w ≡ Some n → is_decimals w ≡ false → power_in w ≡ Some o → ⊥
integer_no_power [] n o h k e = cc h
integer_no_power (c ∷ []) n o h k e = false≢true (sym k ∙ ap is_some h)
integer_no_power (c ∷ d ∷ cs) n o h k e = by_zero (c == 48) refl h
  where
    octal : number_in 8 (d ∷ cs) ≡ Some n → is_digit c 10 ≡ true → ⊥
    octal i z = false≢true (sym k ∙ (rw (z, all_more (d ∷ cs) (if_some _ _ _ i)) refl))

    at_zero : c ≡ 48 → is_digit c 10 ≡ true
    at_zero z = rw z refl

    hexadecimal : c ≡ 48 → (d ≡ 120) ⊎ (d ≡ 88) → ⊥
    hexadecimal z (inl x) = cc (sym e ∙ ap (λ w. power_in w) (ap (λ c. c ∷ d ∷ cs) z ∙ ap (λ d. 48 ∷ d ∷ cs) x))
    hexadecimal z (inr x) = cc (sym e ∙ ap (λ w. power_in w) (ap (λ c. c ∷ d ∷ cs) z ∙ ap (λ d. 48 ∷ d ∷ cs) x))

    by_letter : (b : Bool) → (d == 120 || d == 88) ≡ b → c ≡ 48 → (if b then number_in 16 cs else number_in 8 (d ∷ cs)) ≡ Some n → ⊥
    by_letter true i z j =
        elim (or_cases (d == 120) (d == 88) i) [ inl x ↦ hexadecimal z (inl (eqb-true d 120 x)) | inr x ↦ hexadecimal z (inr (eqb-true d 88 x)) ]
    by_letter false i z j = octal j (at_zero z)

    by_zero : (b : Bool) → (c == 48) ≡ b
        → (if b then (if d == 120 || d == 88 then number_in 16 cs else number_in 8 (d ∷ cs)) else number_in 10 (c ∷ d ∷ cs)) ≡ Some n → ⊥
    by_zero true i j = by_letter (d == 120 || d == 88) refl (eqb-true c 48 i) j
    by_zero false i j = false≢true (sym k ∙ ap is_some j)

-- ---- exponents

if_so_true : (b : Bool) (u : Unit {0}) → ◌≡◌ {A = Option (Unit {0})} (if b then Some tt else None) (Some u) → b ≡ true
if_so_true true u h = refl
if_so_true false u h = absurd (cc h)

reads_decimals : {n : ℕ} {e : Symbol → Bool} → Reads n e (λ rules (u : Unit {0}). decimals) (symbol (plain decimals_in))
reads_decimals = reads_plain {R = λ u. decimals} decimals_in (number (codes "0")) tt refl to (λ u c d. (number d.0, ap (λ b. if b then Some tt else None) d.1, d.2))
  where
    to : (s : Symbol) (u : Unit {0}) → decimals_in s ≡ Some u → decimals (s ∷ [])
    to (number w) u h = (w, if_so_true (is_decimals w) u h, refl)
    to (word w) u h = absurd (cc h)
    to (text w) u h = absurd (cc h)
    to (sign w) u h = absurd (cc h)

abbrev Sign : Language
Sign = mark "-" or mark "+"

reads_sign : {n : ℕ} → Reads n never (λ rules (u : Unit {0}). Sign) sign_reader
unfolding sign_reader
reads_sign =
    reads_either {R = λ rules u. mark "-"} {S = λ rules u. mark "+"} (is_mark (codes "-")) (reads_mark (codes "-")) (reads_mark (codes "+"))
    (λ rules u c d. headed_one (is_mark (codes "-")) (sign (codes "-")) refl c d)
    (λ rules u c rest d s. front_of (is_mark (codes "-")) (sign (codes "+")) c rest d)

none_left : {n : ℕ} {e : Symbol → Bool} → Reads n e (λ rules (u : Unit {0}). nothing) (answer tt)
none_left {n} {e} = said_so {Q = λ rules (u : Unit {0}). nothing} (reads_answer n e tt) (λ rules u c d. d.1) (λ rules u c d. (refl, d))

reads_exponent_end : {n : ℕ} {e : Symbol → Bool} (b : Bool) → Reads n e (λ rules (u : Unit {0}). exponent_end b) (exponent_end_reader b)
unfolding exponent_end_reader
reads_exponent_end true = reads_behind {L = λ rules. Sign} {S = λ rules u. decimals} reads_sign reads_decimals
reads_exponent_end false = none_left

-- a symbol by what a test says of it, and what follows by that
abbrev Word : {K : Type 0} → (Symbol → Option K) → Rules → K → Language
Word test rules k ts = (s : Symbol) × (test s ≡ Some k) × (ts ≡ s ∷ [])

reads_word : {K : Type 0} {n : ℕ} {e : Symbol → Bool} (test : Symbol → Option K) (s : Symbol) (k : K) → test s ≡ Some k → Reads n e (Word test) (symbol (plain test))
reads_word test s k h = reads_plain {R = λ k ts. (s : Symbol) × (test s ≡ Some k) × (ts ≡ s ∷ [])} test s k h (λ s k h. (s, h, refl)) (λ k c d. d)

abbrev Exponential : (Symbol → Option Bool) → Rules → Unit {0} → Language
Exponential test = Chained (Word test) (λ b rules u. exponent_end b)

reads_exponential : {n : ℕ} {e : Symbol → Bool} (test : Symbol → Option Bool) (s : Symbol) (b : Bool) → test s ≡ Some b
    → Reads n e (Exponential test) (chain (symbol (plain test)) exponent_end_reader)
reads_exponential {n} {e} test s b h =
    reads_chain n n never e (Word test) (λ b rules (u : Unit {0}). exponent_end b) (symbol (plain test)) exponent_end_reader (reads_word test s b h)
    (λ b. reads_exponent_end b) (λ rules v w c rest d s. any_stop (c ++ rest)) (λ rules v c d. omega arith)

-- decimals [ exponent ]
abbrev Scaled : Language
Scaled = decimals or powered

scaled_word : (w : List ℕ) (b o : Bool) (r c : List Symbol) → is_decimals w ≡ b → (if b then Some false else power_in w) ≡ Some o → exponent_end o r → c ≡ number w ∷ r → Scaled c
scaled_word w true o r c i h d j =
    let k : false ≡ o = cc h in
    inl (w, i, j ∙ ap (λ r. number w ∷ r) (subst (λ o. exponent_end o r) (sym k) d))
scaled_word w false o r c i h d j = inr (w, o, h, (number w ∷ [], r, refl, d, j))

to_scaled : (rules : Rules) (u : Unit {0}) (c : List Symbol) → Exponential scaled_in rules u c → Scaled c
to_scaled rules u c (o, (x, r, (number w, h, i), d, j)) = scaled_word w (is_decimals w) o r c refl h d (j ∙ ap (λ x. x ++ r) i)
to_scaled rules u c (o, (x, r, (word w, h, i), d, j)) = absurd (cc h)
to_scaled rules u c (o, (x, r, (text w, h, i), d, j)) = absurd (cc h)
to_scaled rules u c (o, (x, r, (sign w, h, i), d, j)) = absurd (cc h)

-- a word, and whether the sign and the decimals of an exponent follow
abbrev Parts : List Symbol → Type 0
Parts c = (w : List ℕ) × (o : Bool) × (scaled_in (number w) ≡ Some o) × (one (number w) ▸ exponent_end o) c

parts_of : (c : List Symbol) → Scaled c → Parts c
parts_of c (inl (w, h, d)) = (w, false, ap (λ b. if b then Some false else power_in w) h, (c, [], d, refl, sym (append-nil c)))
parts_of c (inr (w, o, h, d)) = by_test (is_decimals w) refl
  where
    by_test : (b : Bool) → is_decimals w ≡ b → Parts c
    by_test true i = absurd (cc (h, no_power w i))
    by_test false i = (w, o, ap (λ b. if b then Some false else power_in w) i ∙ h, d)

of_scaled : (rules : Rules) (u : Unit {0}) (c : List Symbol) → Scaled c → Exponential scaled_in rules u c
of_scaled rules u c d = let p = parts_of c d in (p.1, (p.3.0, p.3.1, (number p.0, p.2, p.3.2), p.3.3, p.3.4))

reads_scaled : {n : ℕ} {e : Symbol → Bool} → Reads n e (λ rules (u : Unit {0}). Scaled) scaled_reader
unfolding scaled_reader
reads_scaled = said_so {Q = λ rules (u : Unit {0}). Scaled} (reads_exponential scaled_in (number (codes "0")) false refl) to_scaled of_scaled

-- ---- what follows a point

abbrev Fraction : Language
Fraction = decimals or powered or exponent or nothing

abbrev Filled : Language
Filled = Scaled or exponent

to_filled : (rules : Rules) (u : Unit {0}) (c : List Symbol) → Exponential fraction_in rules u c → Filled c
to_filled rules u c (o, (x, r, (number w, h, i), d, j)) = inl (scaled_word w (is_decimals w) o r c refl h d (j ∙ ap (λ x. x ++ r) i))
to_filled rules u c (o, (x, r, (word w, h, i), d, j)) = inr (w, o, h, (x, r, i, d, j))
to_filled rules u c (o, (x, r, (text w, h, i), d, j)) = absurd (cc h)
to_filled rules u c (o, (x, r, (sign w, h, i), d, j)) = absurd (cc h)

of_filled : (rules : Rules) (u : Unit {0}) (c : List Symbol) → Filled c → Exponential fraction_in rules u c
of_filled rules u c (inl d) = let p = parts_of c d in (p.1, (p.3.0, p.3.1, (number p.0, p.2, p.3.2), p.3.3, p.3.4))
of_filled rules u c (inr (w, o, h, (x, r, i, d, j))) = (o, (x, r, (word w, h, i), d, j))

filled_first : (c : List Symbol) → Filled c → first_passes begins_fraction c ≡ true
filled_first c (inl d) = headed_then begins_fraction (headed_one begins_fraction (number (parts_of c d).0) refl) c (parts_of c d).3
filled_first c (inr (w, o, h, d)) = headed_then begins_fraction (headed_one begins_fraction (word w) refl) c d

reads_fraction : {n : ℕ} → Reads n begins_fraction (λ rules (u : Unit {0}). Fraction) fraction_reader
unfolding fraction_reader
reads_fraction {n} =
    said_so {Q = λ rules (u : Unit {0}). Fraction}
    (reads_either begins_fraction
    (said_so {Q = λ rules (u : Unit {0}). Filled} (reads_exponential fraction_in (number (codes "0")) false refl) to_filled of_filled)
    (reads_answer n begins_fraction tt) (λ rules u c d. filled_first c d)
    (λ rules u c rest d s. ap (λ c. first_passes begins_fraction (c ++ rest)) d.1 ∙ fails_rest begins_fraction rest s))
    (λ rules u c d. elim d [ inl (inl (inl x)) ↦ inl x | inl (inl (inr x)) ↦ inr (inl x) | inl (inr x) ↦ inr (inr (inl x)) | inr x ↦ inr (inr (inr x.1)) ])
    (λ rules u c d. elim d [ inl x ↦ inl (inl (inl x)) | inr (inl x) ↦ inl (inl (inr x)) | inr (inr (inl x)) ↦ inl (inr x) | inr (inr (inr x)) ↦ inr (refl, x) ])

-- ---- integers and floating literals

-- what goes on a constant: a point, or a word or a number word after one
abbrev pub goes_on : Symbol → Bool
goes_on (word w) = true
goes_on (number w) = true
goes_on (text b) = false
goes_on (sign c) = bytes_eq c (codes ".")

no_point : (rest : List Symbol) → IsStop goes_on rest → IsStop is_dot rest
no_point [] s = tt
no_point (word w ∷ rest) s = refl
no_point (number w ∷ rest) s = refl
no_point (text w ∷ rest) s = refl
no_point (sign w ∷ rest) s = s

no_fraction : (rest : List Symbol) → IsStop goes_on rest → IsStop begins_fraction rest
no_fraction [] s = tt
no_fraction (word w ∷ rest) s = s
no_fraction (number w ∷ rest) s = s
no_fraction (text w ∷ rest) s = refl
no_fraction (sign w ∷ rest) s = refl

pub reads_on : {A : Type 0} {n : ℕ} {R : Rules → A → Language} {p : Rattle.pb_source_tokens.specs.Readers.Forms.Reader A} → Reads n is_dot R p → Reads n goes_on R p
reads_on {A} {n} {R} {p} r = reads_stop n is_dot goes_on R p no_point r

abbrev Pointed : Language
Pointed = mark "." ▸ Fraction

abbrev End : Begun → Language
End Whole = nothing
End Open = exponent_end true
End MayPoint = Pointed or nothing
End MustPoint = Pointed

reads_pointed : {n : ℕ} → Reads n goes_on (λ rules (u : Unit {0}). Pointed) (Rattle.pb_source_tokens.specs.Readers.Forms.preceded (mark_reader (codes ".")) fraction_reader)
reads_pointed {n} =
    reads_behind {L = λ rules. mark "."} {S = λ rules u. Fraction} (reads_mark (codes "."))
    (reads_stop n begins_fraction goes_on (λ rules (u : Unit {0}). Fraction) fraction_reader no_fraction reads_fraction)

reads_end : {n : ℕ} (k : Begun) → Reads n goes_on (λ rules (u : Unit {0}). End k) (begun_end_reader k)
unfolding begun_end_reader
reads_end Whole = none_left
reads_end Open = reads_exponent_end true
reads_end {n} MayPoint =
    said_so {Q = λ rules (u : Unit {0}). End MayPoint}
    (reads_either {R = λ rules u. Pointed} is_dot reads_pointed (reads_answer n goes_on tt)
    (λ rules u c d. headed_then is_dot (headed_one is_dot (sign (codes ".")) refl) c d)
    (λ rules u c rest d s. ap (λ c. first_passes is_dot (c ++ rest)) d.1 ∙ fails_rest is_dot rest (no_point rest s)))
    (λ rules u c d. elim d [ inl x ↦ inl x | inr x ↦ inr x.1 ]) (λ rules u c d. elim d [ inl x ↦ inl x | inr x ↦ inr (refl, x) ])
reads_end MustPoint = reads_pointed

-- an integer or a floating literal
abbrev pub Numeral : Language
Numeral = (λ ts. (n : ℕ) × integer n ts) or floating

abbrev Numbered : Rules → Unit {0} → Language
Numbered = Chained (Word begun_in) (λ k rules u. End k)

some_integer : (o : Option ℕ) → is_some o ≡ true → (n : ℕ) × (o ≡ Some n)
some_integer None h = absurd (false≢true h)
some_integer (Some n) h = (n, refl)

module _ (w : List ℕ) (r c : List Symbol) (j : c ≡ number w ∷ r) where
  alone : r ≡ [] → c ≡ number w ∷ []
  alone h = j ∙ ap (λ r. number w ∷ r) h

  an_integer : is_some (integer_of w) ≡ true → r ≡ [] → Numeral c
  an_integer h i = let x = some_integer (integer_of w) h in inl (x.0, (w, x.1, alone i))

  a_power : (o : Bool) → power_in w ≡ Some o → exponent_end o r → Numeral c
  a_power o h d = inr (inr (inl (w, o, h, (number w ∷ [], r, refl, d, j))))

  to_numeral : (k : Begun) (d i : Bool) (p : Option Bool) → is_decimals w ≡ d → is_some (integer_of w) ≡ i → power_in w ≡ p → begun_by d i p ≡ Some k → End k r → Numeral c
  to_numeral Whole true true p hd hi hp h e = absurd (cc h)
  to_numeral Whole true false p hd hi hp h e = absurd (cc h)
  to_numeral Whole false i (Some true) hd hi hp h e = absurd (cc h)
  to_numeral Whole false i (Some false) hd hi hp h e = a_power false hp e
  to_numeral Whole false true None hd hi hp h e = an_integer hi e
  to_numeral Whole false false None hd hi hp h e = absurd (cc h)
  to_numeral Open true true p hd hi hp h e = absurd (cc h)
  to_numeral Open true false p hd hi hp h e = absurd (cc h)
  to_numeral Open false i (Some true) hd hi hp h e = a_power true hp e
  to_numeral Open false i (Some false) hd hi hp h e = absurd (cc h)
  to_numeral Open false true None hd hi hp h e = absurd (cc h)
  to_numeral Open false false None hd hi hp h e = absurd (cc h)
  to_numeral MayPoint true true p hd hi hp h (inl e) = inr (inl (number w ∷ [], r, (w, hd, refl), e, j))
  to_numeral MayPoint true true p hd hi hp h (inr e) = an_integer hi e
  to_numeral MayPoint true false p hd hi hp h e = absurd (cc h)
  to_numeral MayPoint false i (Some true) hd hi hp h e = absurd (cc h)
  to_numeral MayPoint false i (Some false) hd hi hp h e = absurd (cc h)
  to_numeral MayPoint false true None hd hi hp h e = absurd (cc h)
  to_numeral MayPoint false false None hd hi hp h e = absurd (cc h)
  to_numeral MustPoint true true p hd hi hp h e = absurd (cc h)
  to_numeral MustPoint true false p hd hi hp h e = inr (inl (number w ∷ [], r, (w, hd, refl), e, j))
  to_numeral MustPoint false i (Some true) hd hi hp h e = absurd (cc h)
  to_numeral MustPoint false i (Some false) hd hi hp h e = absurd (cc h)
  to_numeral MustPoint false true None hd hi hp h e = absurd (cc h)
  to_numeral MustPoint false false None hd hi hp h e = absurd (cc h)

to_numbered : (rules : Rules) (u : Unit {0}) (c : List Symbol) → Numbered rules u c → Numeral c
to_numbered rules u c (k, (x, r, (number w, h, i), d, j)) =
    to_numeral w r c (j ∙ ap (λ x. x ++ r) i) k (is_decimals w) (is_some (integer_of w)) (power_in w) refl refl refl h d
to_numbered rules u c (k, (x, r, (word w, h, i), d, j)) = absurd (cc h)
to_numbered rules u c (k, (x, r, (text w, h, i), d, j)) = absurd (cc h)
to_numbered rules u c (k, (x, r, (sign w, h, i), d, j)) = absurd (cc h)

module _ (rules : Rules) (u : Unit {0}) (w : List ℕ) (x r c : List Symbol) (hx : x ≡ number w ∷ []) (j : c ≡ x ++ r) where
  numbered : (k : Begun) (d i : Bool) (p : Option Bool) → is_decimals w ≡ d → is_some (integer_of w) ≡ i → power_in w ≡ p → begun_by d i p ≡ Some k → End k r → Numbered rules u c
  numbered k d i p hd hi hp h e =
      (k, (x, r, (number w, ap (λ d. begun_by d (is_some (integer_of w)) (power_in w)) hd ∙ ap (λ i. begun_by d i (power_in w)) hi ∙ ap (begun_by d i) hp ∙ h, hx), e, j))

  of_integer : (n : ℕ) (d : Bool) (p : Option Bool) → integer_of w ≡ Some n → is_decimals w ≡ d → power_in w ≡ p → r ≡ [] → Numbered rules u c
  of_integer n true p hi hd hp e = numbered MayPoint true true p hd (ap is_some hi) hp refl (inr e)
  of_integer n false None hi hd hp e = numbered Whole false true None hd (ap is_some hi) hp refl e
  of_integer n false (Some o) hi hd hp e = absurd (integer_no_power w n o hi hd hp)

  of_pointed : (i : Bool) → is_decimals w ≡ true → is_some (integer_of w) ≡ i → Pointed r → Numbered rules u c
  of_pointed true hd hi e = numbered MayPoint true true (power_in w) hd hi refl refl (inl e)
  of_pointed false hd hi e = numbered MustPoint true false (power_in w) hd hi refl refl e

  of_power : (o d : Bool) → power_in w ≡ Some o → is_decimals w ≡ d → exponent_end o r → Numbered rules u c
  of_power o true hp hd e = absurd (cc (hp, no_power w hd))
  of_power true false hp hd e = numbered Open false (is_some (integer_of w)) (Some true) hd refl hp refl e
  of_power false false hp hd e = numbered Whole false (is_some (integer_of w)) (Some false) hd refl hp refl e

numbered_first : (rules : Rules) (u : Unit {0}) (c rest : List Symbol) → Numbered rules u c → first_passes is_dot (c ++ rest) ≡ false
numbered_first rules u c rest (k, (x, r, (number w, h, i), d, j)) = ap (λ c. first_passes is_dot (c ++ rest)) (j ∙ ap (λ x. x ++ r) i)
numbered_first rules u c rest (k, (x, r, (word w, h, i), d, j)) = absurd (cc h)
numbered_first rules u c rest (k, (x, r, (text w, h, i), d, j)) = absurd (cc h)
numbered_first rules u c rest (k, (x, r, (sign w, h, i), d, j)) = absurd (cc h)

pub reads_numeral : {n : ℕ} → Reads n goes_on (λ rules (u : Unit {0}). Numeral) numeral_reader
unfolding numeral_reader
reads_numeral {n} =
    said_so {Q = λ rules (u : Unit {0}). Numeral}
    (reads_either is_dot (reads_behind {L = λ rules. mark "."} {S = λ rules u. Scaled} (reads_mark (codes ".")) reads_scaled)
    (reads_chain n n never goes_on (Word begun_in) (λ k rules (u : Unit {0}). End k) (symbol (plain begun_in)) begun_end_reader
    (reads_word begun_in (number (codes "0")) MayPoint refl) (λ k. reads_end k) (λ rules v w c rest d s. any_stop (c ++ rest)) (λ rules v c d. omega arith))
    (λ rules u c d. headed_then is_dot (headed_one is_dot (sign (codes ".")) refl) c d)
    (λ rules u c rest d s. numbered_first rules u c rest d))
    to from
  where
    to : (rules : Rules) (u : Unit {0}) (c : List Symbol) → (mark "." ▸ Scaled) c ⊎ Numbered rules u c → Numeral c
    to rules u c (inl d) = inr (inr (inr d))
    to rules u c (inr d) = to_numbered rules u c d

    from : (rules : Rules) (u : Unit {0}) (c : List Symbol) → Numeral c → (mark "." ▸ Scaled) c ⊎ Numbered rules u c
    from rules u c (inl (n, (w, h, d))) = inr (of_integer rules u w c [] c d (sym (append-nil c)) n (is_decimals w) (power_in w) h refl refl refl)
    from rules u c (inr (inl (a, b, (w, h, d), hb, j))) = inr (of_pointed rules u w a b c d j (is_some (integer_of w)) h refl hb)
    from rules u c (inr (inr (inl (w, o, h, (a, r, i, d, j))))) = inr (of_power rules u w a r c i j o (is_decimals w) h refl d)
    from rules u c (inr (inr (inr d))) = inl d

-- a number word or a point
abbrev pub begins_numeral : Symbol → Bool
begins_numeral (number w) = true
begins_numeral (sign c) = bytes_eq c (codes ".")
begins_numeral (word w) = false
begins_numeral (text b) = false

pub numeral_first : (c : List Symbol) → Numeral c → first_passes begins_numeral c ≡ true
numeral_first c (inl (n, (w, h, d))) = headed_one begins_numeral (number w) refl c d
numeral_first c (inr (inl (a, b, (w, h, d), hb, j))) = headed_then {S = Pointed} begins_numeral (headed_one begins_numeral (number w) refl) c (a, b, d, hb, j)
numeral_first c (inr (inr (inl (w, o, h, d)))) = headed_then begins_numeral (headed_one begins_numeral (number w) refl) c d
numeral_first c (inr (inr (inr d))) = headed_then begins_numeral (headed_one begins_numeral (sign (codes ".")) refl) c d
