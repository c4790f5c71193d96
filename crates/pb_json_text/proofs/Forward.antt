-- The machine reads each text of the grammar to its end, and has its value then.
use Rattle.std.proofs.Common.{◌≡◌, ◌≢◌, ℕ, zero, suc, ◌+◌, ◌<◌, ◌≤◌, List, [], ◌∷◌, ◌++◌, length, codes, Bool, true, false, ◌==◌, ◌&&◌, ◌||◌, Option, Some, None, refl, sym, ap, ◌∙◌, subst, arith, ◌⊎◌, inl, inr, append_assoc, append-nil}
use Rattle.std.specs.Prelude.{if◌then◌else◌}
use Rattle.std.proofs.lemmas.Bool.Decides.{eqb_tells}
use Rattle.std.specs.Char.{is_ascii_digit}
use Rattle.pb_json_text.specs.declared.number.NumberPart.{NumberPart}
use Rattle.pb_json_text.specs.declared.number.NumberPart.TheVariants.{Start, Minus, Zero, Whole, Point, Fraction, Letter, Sign, Exponent}
use Rattle.pb_json_text.specs.Json.{Json, number, no_elements, Members}
use Rattle.pb_json_text.specs.Grammar.{Place, Spells, is_blank, AreBlanks, Blanks, IsString}
use Rattle.pb_json_text.specs.Loops.Machine.{number_next, is_final, StringPart, text, StringNext, goes, stops, string_next, is_text}
use Rattle.pb_json_text.specs.Loops.Machine.{Stack, in_array, Target}
use Rattle.pb_json_text.specs.Loops.Machine.{Mode, before_value, in_brackets, in_braces, before_name, after_name, after_value, in_word, in_number, in_string}
use Rattle.pb_json_text.specs.Loops.Machine.{Next, go, named, next, finish, onward, run}
use Rattle.pb_json_text.specs.Loops.States.{Skips, run_begin}
use Rattle.pb_json_text.proofs.NumberLemmas.{then_ok, number_ok}
use Rattle.pb_json_text.proofs.StringLemmas.{content_of, content_next, characters_content, map_from}

-- STEPS

pub run_byte : (m : Mode) (p x : ℕ) (xs : List ℕ) → run m p (x ∷ xs) ≡ onward (next m p x) p (λ n. run n (p + 1) xs)
unfolding run
run_byte m p x xs = refl

pub run_end : (m : Mode) (p : ℕ) → run m p [] ≡ finish m p
unfolding run
run_end m p = refl

-- a byte after which the machine goes on
pub run_go : (m n : Mode) (p x : ℕ) (xs : List ℕ) → next m p x ≡ go n → run m p (x ∷ xs) ≡ run n (p + 1) xs
run_go m n p x xs e = run_byte m p x xs ∙ ap (λ (k : Next). onward k p (λ n. run n (p + 1) xs)) e

-- one byte, from place to place
pub run_spelled : (m n : Mode) (x : ℕ) (h g : Place) → Spells (x ∷ []) h g → next m h.0 x ≡ go n → run m h.0 h.1 ≡ run n g.0 g.1
run_spelled m n x h g s e = rw (s.0, s.1) (run_go m n h.0 x g.1 e)

pub plus_more : (p n : ℕ) → (p + 1) + n ≡ p + suc n
plus_more p n = omega arith

plus_none : (p : ℕ) → p + 0 ≡ p
plus_none p = omega arith

-- BLANKS

blanks_run : (m : Mode) (w r : List ℕ) (p : ℕ) → Skips m → AreBlanks w → run m p (w ++ r) ≡ run m (p + length w) r
blanks_run m [] r p s b = ap (λ (n : ℕ). run m n r) (sym (plus_none p))
blanks_run m (x ∷ w) r p s b = run_go m m p x (w ++ r) (s p x b.0) ∙ blanks_run m w r (p + 1) s b.1 ∙ ap (λ (n : ℕ). run m n r) (plus_more p (length w))

pub run_blanks : (m : Mode) (h g : Place) → Skips m → Blanks h g → run m h.0 h.1 ≡ run m g.0 g.1
run_blanks m h g s (w, e, b) = rw (e.0, e.1) (blanks_run m w g.1 h.0 s b)

pub skips_value : (l : ℕ) (k : Stack) → Skips (before_value l k)
skips_value l k p x e = rw e refl

pub skips_brackets : (l a : ℕ) (k : Stack) → Skips (in_brackets l a k)
skips_brackets l a k p x e = rw e refl

pub skips_braces : (l a : ℕ) (k : Stack) → Skips (in_braces l a k)
skips_braces l a k p x e = rw e refl

pub skips_name : (l a : ℕ) (ms : Members) (k : Stack) → Skips (before_name l a ms k)
skips_name l a ms k p x e = rw e refl

pub skips_after_name : (l a : ℕ) (ms : Members) (n : ℕ) (s : List ℕ) (k : Stack) → Skips (after_name l a ms n s k)
skips_after_name l a ms n s k p x e = rw e refl

pub skips_after : (l at : ℕ) (j : Json) (k : Stack) → Skips (after_value l at j k)
skips_after l at j k p x e = rw e refl

-- WORDS

pub word_run : (y : ℕ) (ys r : List ℕ) (p at : ℕ) (j : Json) (l : ℕ) (k : Stack) → run (in_word y ys at j l k) p ((y ∷ ys) ++ r) ≡ run (after_value l at j k) (p + length (y ∷ ys)) r
word_run y [] r p at j l k = run_go (in_word y [] at j l k) (after_value l at j k) p y r (rw (Rattle.std.proofs.lemmas.Bool.eq-eqb y y refl) refl)
word_run y (z ∷ ys) r p at j l k =
    run_go (in_word y (z ∷ ys) at j l k) (in_word z ys at j l k) p y ((z ∷ ys) ++ r) (rw (Rattle.std.proofs.lemmas.Bool.eq-eqb y y refl) refl)
    ∙ word_run z ys r (p + 1) at j l k ∙ ap (λ (n : ℕ). run (after_value l at j k) n r) (plus_more p (length (z ∷ ys)))

-- NUMBERS

-- no number goes on with these bytes
abbrev pub Shut : List ℕ → Type 0
Shut [] = Unit {0}
Shut (y ∷ ys) = (part : NumberPart) → number_next part y ≡ None

pub no_number :
    (part : NumberPart) (y : ℕ) → is_ascii_digit y ≡ false → (y == 46) ≡ false → (y == 101) ≡ false → (y == 69) ≡ false → (y == 45) ≡ false → (y == 43) ≡ false
    → (y == 48) ≡ false → number_next part y ≡ None
no_number Start y a b c d e f g = rw (e, g, a) refl
no_number Minus y a b c d e f g = rw (g, a) refl
no_number Zero y a b c d e f g = rw (b, c, d) refl
no_number Whole y a b c d e f g = rw (a, b, c, d) refl
no_number Point y a b c d e f g = rw a refl
no_number Fraction y a b c d e f g = rw (a, c, d) refl
no_number Letter y a b c d e f g = rw (e, f, a) refl
no_number Sign y a b c d e f g = rw a refl
no_number Exponent y a b c d e f g = rw a refl

shut_blank : (x : ℕ) (xs : List ℕ) → is_blank x ≡ true → Shut (x ∷ xs)
shut_blank x xs h =
    elim (eqb_tells x 32) [
      | inl a ↦ subst (λ (n : ℕ). Shut (n ∷ xs)) (sym a.1) (λ part. no_number part 32 refl refl refl refl refl refl refl)
      | inr a ↦ (let h2 = rw a.0 at h in elim (eqb_tells x 9) [
        | inl b ↦ subst (λ (n : ℕ). Shut (n ∷ xs)) (sym b.1) (λ part. no_number part 9 refl refl refl refl refl refl refl)
        | inr b ↦ (let h3 = rw b.0 at h2 in elim (eqb_tells x 10) [
          | inl c ↦ subst (λ (n : ℕ). Shut (n ∷ xs)) (sym c.1) (λ part. no_number part 10 refl refl refl refl refl refl refl)
          | inr c ↦ (let h4 = rw c.0 at h3 in elim (eqb_tells x 13) [
            | inl d ↦ subst (λ (n : ℕ). Shut (n ∷ xs)) (sym d.1) (λ part. no_number part 13 refl refl refl refl refl refl refl)
            | inr d ↦ absurd (cc (rw d.0 at h4))
          ])
        ])
      ])
    ]

pub shut_blanks : (h g : Place) → Blanks h g → Shut g.1 → Shut h.1
shut_blanks h g ([], e, b) s = rw e.0 s
shut_blanks h g (x ∷ w, e, b) s = rw e.0 (shut_blank x (w ++ g.1) b.0)

pub shut_comma : (h g : Place) → Spells (codes ",") h g → Shut h.1
shut_comma h g s = rw s.0 (λ part. no_number part 44 refl refl refl refl refl refl refl)

pub shut_bracket : (h g : Place) → Spells (codes "]") h g → Shut h.1
shut_bracket h g s = rw s.0 (λ part. no_number part 93 refl refl refl refl refl refl refl)

pub shut_brace : (h g : Place) → Spells (codes "}") h g → Shut h.1
shut_brace h g s = rw s.0 (λ part. no_number part 125 refl refl refl refl refl refl refl)

number_ends : (part : NumberPart) (d r : List ℕ) (p at l : ℕ) (k : Stack) → is_final part ≡ true → Shut r
    → run (in_number part d at l k) p r ≡ run (after_value l at (number d) k) p r
number_ends part d [] p at l k f s = run_end (in_number part d at l k) p ∙ rw f (sym (run_end (after_value l at (number d) k) p))
number_ends part d (y ∷ ys) p at l k f s =
    run_byte (in_number part d at l k) p y ys ∙ rw (s part) (rw f (sym (run_byte (after_value l at (number d) k) p y ys)))

number_byte : (x : ℕ) (w : List ℕ) (o : Option NumberPart) (part : NumberPart) (d r : List ℕ) (p at l : ℕ) (k : Stack) → number_next part x ≡ o → then_ok o (λ q. number_ok q w) ≡ true
    → ((q : NumberPart) (c : List ℕ) → number_ok q w ≡ true → run (in_number q c at l k) (p + 1) (w ++ r) ≡ run (after_value l at (number (c ++ w)) k) (p + 1 + length w) r)
    → run (in_number part d at l k) p (x ∷ (w ++ r)) ≡ run (after_value l at (number (d ++ x ∷ w)) k) (p + suc (length w)) r
number_byte x w None part d r p at l k e h f = absurd (cc h)
number_byte x w (Some q) part d r p at l k e h f =
    run_go (in_number part d at l k) (in_number q (d ++ x ∷ []) at l k) p x (w ++ r) (rw e refl)
    ∙ f q (d ++ x ∷ []) h
    ∙ ap (λ (c : List ℕ). run (after_value l at (number c) k) (p + 1 + length w) r) (append_assoc d (x ∷ []) w)
    ∙ ap (λ (n : ℕ). run (after_value l at (number (d ++ x ∷ w)) k) n r) (plus_more p (length w))

pub number_run : (w : List ℕ) (part : NumberPart) (d r : List ℕ) (p at l : ℕ) (k : Stack) → number_ok part w ≡ true → Shut r
    → run (in_number part d at l k) p (w ++ r) ≡ run (after_value l at (number (d ++ w)) k) (p + length w) r
number_run [] part d r p at l k h s =
    number_ends part d r p at l k h s ∙ ap (λ (c : List ℕ). run (after_value l at (number c) k) p r) (sym (append-nil d))
    ∙ ap (λ (n : ℕ). run (after_value l at (number (d ++ [])) k) n r) (sym (plus_none p))
number_run (x ∷ w) part d r p at l k h s =
    number_byte x w (number_next part x) part d r p at l k refl h (λ q c e. number_run w q c r (p + 1) at l k e s)

-- STRINGS

abbrev StringRuns : List ℕ → List ℕ → ℕ → ℕ → Target → ℕ → Stack → Type 0
StringRuns w r p at t l k =
    (q : StringPart) (c v : List ℕ) → content_of q w ≡ Some v → run (in_string q c at t l k) (p + 1) (w ++ 34 ∷ r) ≡ run (named t (c ++ v) at l k) (p + 1 + suc (length w)) r

string_step : (n : StringNext) (x : ℕ) (w : List ℕ) (part : StringPart) (s u r : List ℕ) (p at : ℕ) (t : Target) (l : ℕ) (k : Stack) → string_next part x ≡ n
    → (is_text part && (x == 34)) ≡ false → content_next n (λ q. content_of q w) ≡ Some u → StringRuns w r p at t l k
    → run (in_string part s at t l k) p (x ∷ (w ++ 34 ∷ r)) ≡ run (named t (s ++ u) at l k) (p + suc (suc (length w))) r
string_step stops x w part s u r p at t l k e q h f = absurd (cc h)
string_step (goes part2 c) x w part s u r p at t l k e q h f =
    let found = map_from c u (content_of part2 w) h in
    run_go (in_string part s at t l k) (in_string part2 (s ++ c) at t l k) p x (w ++ 34 ∷ r) (rw (q, e) refl)
    ∙ f part2 (s ++ c) found.0 found.1
    ∙ ap (λ (v : List ℕ). run (named t v at l k) (p + 1 + suc (length w)) r) (append_assoc s c found.0 ∙ ap (λ (v : List ℕ). s ++ v) (sym found.2))
    ∙ ap (λ (n : ℕ). run (named t (s ++ u) at l k) n r) (plus_more p (suc (length w)))

string_byte : (b : Bool) (x : ℕ) (w : List ℕ) (part : StringPart) (s u r : List ℕ) (p at : ℕ) (t : Target) (l : ℕ) (k : Stack) → (is_text part && (x == 34)) ≡ b
    → (if b then None else content_next (string_next part x) (λ q. content_of q w)) ≡ Some u → StringRuns w r p at t l k
    → run (in_string part s at t l k) p (x ∷ (w ++ 34 ∷ r)) ≡ run (named t (s ++ u) at l k) (p + suc (suc (length w))) r
string_byte true x w part s u r p at t l k e h f = absurd (cc h)
string_byte false x w part s u r p at t l k e h f = string_step (string_next part x) x w part s u r p at t l k refl e h f

pub string_run : (w : List ℕ) (part : StringPart) (s u r : List ℕ) (p at : ℕ) (t : Target) (l : ℕ) (k : Stack) → content_of part w ≡ Some u
    → run (in_string part s at t l k) p (w ++ 34 ∷ r) ≡ run (named t (s ++ u) at l k) (p + suc (length w)) r
string_run [] part s u r p at t l k h = by_text (is_text part) refl h
  where
    by_text : (b : Bool) → is_text part ≡ b → (if b then Some [] else None) ≡ Some u → run (in_string part s at t l k) p (34 ∷ r) ≡ run (named t (s ++ u) at l k) (p + 1) r
    by_text true e h =
        let none : [] ≡ u = cc h in
        run_go (in_string part s at t l k) (named t s at l k) p 34 r (rw e refl) ∙ ap (λ (c : List ℕ). run (named t c at l k) (p + 1) r) (sym (append-nil s) ∙ ap (λ (c : List ℕ). s ++ c) none)
    by_text false e h = absurd (cc h)
string_run (x ∷ w) part s u r p at t l k h =
    string_byte (is_text part && (x == 34)) x w part s u r p at t l k refl h (λ q c v e. string_run w q c v r (p + 1) at t l k e)

-- a string from its quotation mark on
pub quoted_run : (m : Mode) (s : List ℕ) (h g : Place) (t : Target) (l : ℕ) (k : Stack) → next m h.0 34 ≡ go (in_string text [] h.0 t l k) → IsString s h g
    → run m h.0 h.1 ≡ run (named t s h.0 l k) g.0 g.1
quoted_run m s h g t l k e (w, b, c) =
    rw (b.0 ∙ ap (λ (v : List ℕ). 34 ∷ v) (append_assoc w (34 ∷ []) g.1))
    (run_go m (in_string text [] h.0 t l k) h.0 34 (w ++ 34 ∷ g.1) e
    ∙ string_run w text [] s g.1 (h.0 + 1) h.0 t l k (ap (content_of text) c.written ∙ characters_content c.all c.are ∙ ap Some (sym c.meant))
    ∙ ap (λ (n : ℕ). run (named t s h.0 l k) n g.1) (plus_more h.0 (suc (length w)) ∙ ap (λ (n : ℕ). h.0 + suc n) (sym (length_more w)) ∙ sym b.1))
  where
    length_more : (w : List ℕ) → length (w ++ 34 ∷ []) ≡ suc (length w)
    length_more w = omega (arith, Rattle.std.proofs.Common.length-append w (34 ∷ []))

-- VALUES

-- the bytes begin with no blank and no closing bracket
abbrev pub Starts : List ℕ → Type 0
Starts [] = ⊥
Starts (x ∷ xs) = (is_blank x ≡ false) × ((x == 93) ≡ false)

pub value_begins : (l : ℕ) (k : Stack) (p : ℕ) (b : List ℕ) → Starts b → run (before_value l k) p b ≡ run_begin l k p b
value_begins l k p [] s = absurd s
value_begins l k p (x ∷ xs) s = run_byte (before_value l k) p x xs ∙ rw s.0 refl

pub brackets_begin : (l a : ℕ) (k : Stack) (p : ℕ) (b : List ℕ) → Starts b → run (in_brackets l a k) p b ≡ run_begin l (in_array no_elements a k) p b
brackets_begin l a k p [] s = absurd s
brackets_begin l a k p (x ∷ xs) s = run_byte (in_brackets l a k) p x xs ∙ rw (s.0, s.1) refl
