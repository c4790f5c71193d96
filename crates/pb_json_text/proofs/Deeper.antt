-- The machine with one level more goes the same way, but where it stopped because of the depth.
use Rattle.std.proofs.Common.{◌≡◌, ℕ, zero, suc, List, [], ◌∷◌, ◌++◌, codes, Bool, true, false, ◌==◌, ◌&&◌, Option, Some, None, refl, sym, ap}
use Rattle.std.specs.Prelude.{if◌then◌else◌}
use Rattle.pb_json_text.specs.declared.fault.JsonCause.TheVariants.{UnexpectedByte, UnexpectedEnd, BadUtf8, TooDeep, OutOfMemory}
use Rattle.pb_json_text.specs.declared.number.NumberPart.{NumberPart}
use Rattle.pb_json_text.specs.declared.number.NumberPart.TheVariants.{Start}
use Rattle.pb_json_text.specs.Grammar.{is_blank}
use Rattle.pb_json_text.specs.Json.{Json, Members, null, boolean, number, array, object, no_elements, no_members}
use Rattle.pb_json_text.specs.Loops.Machine.{number_next, is_final, text, StringNext, goes, stops, string_next, is_text, with_element, with_member, Stack, top, in_array, in_object, Target, as_value, as_name}
use Rattle.pb_json_text.specs.Loops.Machine.{Mode, before_value, in_brackets, in_braces, before_name, after_name, after_value, in_word, in_number, in_string}
use Rattle.pb_json_text.specs.Loops.Machine.{Next, go, no, begin, begin_number, begin_other, begin_name, open_level, end_value, next_after, word_left, named, number_goes, string_goes, next}

abbrev pub deeper : Mode → Mode
deeper (before_value l k) = before_value (suc l) k
deeper (in_brackets l a k) = in_brackets (suc l) a k
deeper (in_braces l a k) = in_braces (suc l) a k
deeper (before_name l a d k) = before_name (suc l) a d k
deeper (after_name l a d n s k) = after_name (suc l) a d n s k
deeper (after_value l at j k) = after_value (suc l) at j k
deeper (in_word y ys at j l k) = in_word y ys at j (suc l) k
deeper (in_number part d at l k) = in_number part d at (suc l) k
deeper (in_string part s at t l k) = in_string part s at t (suc l) k

-- what comes next, and what comes next with one level more; a byte is refused only as unexpected or for its depth
abbrev pub Shifted : Next → Next → Type 0
Shifted (go m) n = n ≡ go (deeper m)
Shifted (no TooDeep) n = (m : Mode) × (n ≡ go m)
Shifted (no UnexpectedByte) n = n ≡ no UnexpectedByte
Shifted (no UnexpectedEnd) n = ⊥
Shifted (no BadUtf8) n = ⊥
Shifted (no OutOfMemory) n = ⊥

pub record IsShifted (u s : Next) : Type 0 where
  pub is : Shifted u s

either : {u v s t : Next} (b : Bool) → IsShifted u s → IsShifted v t → IsShifted (if b then u else v) (if b then s else t)
either true h e = h
either false h e = e

goes_on : (m : Mode) → IsShifted (go m) (go (deeper m))
goes_on m = record { is = refl }

goes_to : (m n : Mode) → deeper m ≡ n → IsShifted (go m) (go n)
goes_to m n e = record { is = ap go (sym e) }

unexpected : IsShifted (no UnexpectedByte) (no UnexpectedByte)
unexpected = record { is = refl }

opens : (l : ℕ) (f : ℕ → Mode) → ((m : ℕ) → deeper (f m) ≡ f (suc m)) → IsShifted (open_level l f) (open_level (suc l) f)
opens zero f h = record { is = (f zero, refl) }
opens (suc m) f h = goes_to (f m) (f (suc m)) (h m)

other : (l : ℕ) (k : Stack) (p x : ℕ) → IsShifted (begin_other l k p x) (begin_other (suc l) k p x)
other l k p x =
    either (x == 34) (goes_on (in_string text [] p as_value l k))
    (either (x == 91) (opens l (λ m. in_brackets m p k) (λ m. refl))
    (either (x == 123) (opens l (λ m. in_braces m p k) (λ m. refl))
    (either (x == 110) (goes_on (in_word 117 (codes "ll") p null l k))
    (either (x == 116) (goes_on (in_word 114 (codes "ue") p (boolean true) l k))
    (either (x == 102) (goes_on (in_word 97 (codes "lse") p (boolean false) l k)) unexpected)))))

numbers : (o : Option NumberPart) (l : ℕ) (k : Stack) (p x : ℕ) → IsShifted (begin_number o (begin_other l k p x) l k p x) (begin_number o (begin_other (suc l) k p x) (suc l) k p x)
numbers None l k p x = other l k p x
numbers (Some part) l k p x = goes_on (in_number part (x ∷ []) p l k)

begins : (l : ℕ) (k : Stack) (p x : ℕ) → IsShifted (begin l k p x) (begin (suc l) k p x)
begins l k p x = numbers (number_next Start x) l k p x

names : (l a : ℕ) (d : Members) (k : Stack) (p x : ℕ) → IsShifted (begin_name l a d k p x) (begin_name (suc l) a d k p x)
names l a d k p x = either (x == 34) (goes_on (in_string text [] p (as_name a d) l k)) unexpected

ended : (l at : ℕ) (j : Json) (k : Stack) (x : ℕ) → IsShifted (end_value l at j k x) (end_value (suc l) at j k x)
ended l at j top x = unexpected
ended l at j (in_array d a k) x =
    either (x == 44) (goes_on (before_value l (in_array (with_element d at j) a k)))
    (either (x == 93) (goes_on (after_value (suc l) a (array (with_element d at j)) k)) unexpected)
ended l at j (in_object d a n s k) x =
    either (x == 44) (goes_on (before_name l a (with_member d n s at j) k))
    (either (x == 125) (goes_on (after_value (suc l) a (object (with_member d n s at j)) k)) unexpected)

after : (l at : ℕ) (j : Json) (k : Stack) (x : ℕ) → IsShifted (next_after l at j k x) (next_after (suc l) at j k x)
after l at j k x = either (is_blank x) (goes_on (after_value l at j k)) (ended l at j k x)

words : (ys : List ℕ) (at : ℕ) (j : Json) (l : ℕ) (k : Stack) → deeper (word_left ys at j l k) ≡ word_left ys at j (suc l) k
words [] at j l k = refl
words (y ∷ ys) at j l k = refl

number_on : {u s : Next} (o : Option NumberPart) (d : List ℕ) (at l : ℕ) (k : Stack) → IsShifted u s → IsShifted (number_goes o u d at l k) (number_goes o s d at (suc l) k)
number_on None d at l k h = h
number_on (Some part) d at l k h = goes_on (in_number part d at l k)

names_on : (t : Target) (s : List ℕ) (at l : ℕ) (k : Stack) → deeper (named t s at l k) ≡ named t s at (suc l) k
names_on as_value s at l k = refl
names_on (as_name a d) s at l k = refl

string_on : (n : StringNext) (s : List ℕ) (at : ℕ) (t : Target) (l : ℕ) (k : Stack) → IsShifted (string_goes n s at t l k) (string_goes n s at t (suc l) k)
string_on stops s at t l k = unexpected
string_on (goes part e) s at t l k = goes_on (in_string part (s ++ e) at t l k)

pub shifted : (m : Mode) (p x : ℕ) → IsShifted (next m p x) (next (deeper m) p x)
shifted (before_value l k) p x = either (is_blank x) (goes_on (before_value l k)) (begins l k p x)
shifted (in_brackets l a k) p x =
    either (is_blank x) (goes_on (in_brackets l a k)) (either (x == 93) (goes_on (after_value (suc l) a (array no_elements) k)) (begins l (in_array no_elements a k) p x))
shifted (in_braces l a k) p x =
    either (is_blank x) (goes_on (in_braces l a k)) (either (x == 125) (goes_on (after_value (suc l) a (object no_members) k)) (names l a no_members k p x))
shifted (before_name l a d k) p x = either (is_blank x) (goes_on (before_name l a d k)) (names l a d k p x)
shifted (after_name l a d n s k) p x =
    either (is_blank x) (goes_on (after_name l a d n s k)) (either (x == 58) (goes_on (before_value l (in_object d a n s k))) unexpected)
shifted (after_value l at j k) p x = after l at j k x
shifted (in_word y ys at j l k) p x = either (x == y) (goes_to (word_left ys at j l k) (word_left ys at j (suc l) k) (words ys at j l k)) unexpected
shifted (in_number part d at l k) p x =
    number_on (number_next part x) (d ++ x ∷ []) at l k (either (is_final part) (after l at (number d) k x) unexpected)
shifted (in_string part s at t l k) p x =
    either (is_text part && (x == 34)) (goes_to (named t s at l k) (named t s at (suc l) k) (names_on t s at l k)) (string_on (string_next part x) s at t l k)
