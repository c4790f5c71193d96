-- A machine that reads a text byte by byte, for the contracts of private functions: what is read so far is its state.
use Rattle.std.specs.Prelude.{ℕ, zero, suc, ◌+◌, ◌*◌, List, [], ◌∷◌, ◌++◌, codes, Bool, true, false, ◌==◌, ◌||◌, ◌&&◌, nat_lt, nat_le, Option, Some, None, if◌then◌else◌, encode_utf8}
use Rattle.std.specs.Char.{digit_value, is_ascii_digit}
use Rattle.pb_json_text.specs.Json.{Json, null, boolean, number, string, array, object, Elements, no_elements, element, Members, no_members, member}
use Rattle.pb_json_text.specs.Grammar.{is_blank, meaning_of_letter, surrogates}
use Rattle.pb_json_text.specs.declared.fault.JsonCause.{JsonCause}
use Rattle.pb_json_text.specs.declared.fault.JsonCause.TheVariants as cause
use Rattle.pb_json_text.specs.declared.number.NumberPart.{NumberPart}
use Rattle.pb_json_text.specs.declared.number.NumberPart.TheVariants.{Start, Minus, Zero, Whole, Point, Fraction, Letter, Sign, Exponent}

-- NUMBERS

abbrev pub is_letter : ℕ → Bool
is_letter x = x == 101 || x == 69

abbrev pub letter_next : ℕ → Option NumberPart
letter_next x = if is_letter x then Some Letter else None

abbrev pub part_next : ℕ → Option NumberPart
part_next x = if x == 46 then Some Point else letter_next x

abbrev pub digit_next : NumberPart → ℕ → Option NumberPart
digit_next part x = if is_ascii_digit x then Some part else None

abbrev pub whole_next : ℕ → Option NumberPart
whole_next x = if x == 48 then Some Zero else digit_next Whole x

-- the part that a byte of a number ends, after this part
abbrev pub number_next : NumberPart → ℕ → Option NumberPart
number_next Start x = if x == 45 then Some Minus else whole_next x
number_next Minus x = whole_next x
number_next Zero x = part_next x
number_next Whole x = if is_ascii_digit x then Some Whole else part_next x
number_next Point x = digit_next Fraction x
number_next Fraction x = if is_ascii_digit x then Some Fraction else letter_next x
number_next Letter x = if x == 45 || x == 43 then Some Sign else digit_next Exponent x
number_next Sign x = digit_next Exponent x
number_next Exponent x = digit_next Exponent x

-- a number may end after this part
abbrev pub is_final : NumberPart → Bool
is_final Start = false
is_final Minus = false
is_final Zero = true
is_final Whole = true
is_final Point = false
is_final Fraction = true
is_final Letter = false
is_final Sign = false
is_final Exponent = true

-- STRINGS

pub data StringPart : Type 0 where
  text : StringPart
  backslash : StringPart
  -- after `\u`, and after one, two and three digits
  digits0 : StringPart
  digits1 : ℕ → StringPart
  digits2 : ℕ → StringPart
  digits3 : ℕ → StringPart
  -- after a high surrogate, and after `\`, `\u` and digits
  high : ℕ → StringPart
  high_backslash : ℕ → StringPart
  low0 : ℕ → StringPart
  low1 : ℕ → StringPart
  low2 : ℕ → ℕ → StringPart
  low3 : ℕ → ℕ → StringPart

pub data StringNext : Type 0 where
  -- the part, and the bytes that were added
  goes : StringPart → List ℕ → StringNext
  stops : StringNext

-- a digit of at least and at most so much
abbrev pub on_digit : ℕ → ℕ → ℕ → (ℕ → StringNext) → StringNext
on_digit least most x f = if nat_le least (digit_value x) && nat_le (digit_value x) most then f (digit_value x) else stops

abbrev pub letter_or_stops : Option ℕ → StringNext
letter_or_stops None = stops
letter_or_stops (Some m) = goes text (m ∷ [])

-- after the four digits of a code unit that is no low surrogate
abbrev pub unit_next : ℕ → StringNext
unit_next u = if nat_le 55296 u && nat_lt u 57344 then goes (high u) [] else goes text (encode_utf8 u)

abbrev pub text_next : ℕ → StringNext
text_next x = if x == 92 then goes backslash [] else if nat_lt x 32 then stops else goes text (x ∷ [])

abbrev pub string_next : StringPart → ℕ → StringNext
string_next text x = text_next x
string_next backslash x = if x == 117 then goes digits0 [] else letter_or_stops (meaning_of_letter x)
string_next digits0 x = on_digit 0 15 x (λ a. goes (digits1 a) [])
string_next (digits1 a) x = on_digit 0 (if a == 13 then 11 else 15) x (λ b. goes (digits2 (a * 16 + b)) [])
string_next (digits2 v) x = on_digit 0 15 x (λ c. goes (digits3 (v * 16 + c)) [])
string_next (digits3 v) x = on_digit 0 15 x (λ d. unit_next (v * 16 + d))
string_next (high u) x = if x == 92 then goes (high_backslash u) [] else stops
string_next (high_backslash u) x = if x == 117 then goes (low0 u) [] else stops
string_next (low0 u) x = on_digit 13 13 x (λ a. goes (low1 u) [])
string_next (low1 u) x = on_digit 12 15 x (λ b. goes (low2 u (208 + b)) [])
string_next (low2 u v) x = on_digit 0 15 x (λ c. goes (low3 u (v * 16 + c)) [])
string_next (low3 u v) x = on_digit 0 15 x (λ d. goes text (encode_utf8 (surrogates u (v * 16 + d))))

abbrev pub is_text : StringPart → Bool
is_text text = true
is_text backslash = false
is_text digits0 = false
is_text (digits1 a) = false
is_text (digits2 v) = false
is_text (digits3 v) = false
is_text (high u) = false
is_text (high_backslash u) = false
is_text (low0 u) = false
is_text (low1 u) = false
is_text (low2 u v) = false
is_text (low3 u v) = false

-- VALUES

-- elements, and these after them
abbrev pub joined_elements : Elements → Elements → Elements
joined_elements no_elements more = more
joined_elements (element at j js) more = element at j (joined_elements js more)

abbrev pub joined_members : Members → Members → Members
joined_members no_members more = more
joined_members (member n s at j ms) more = member n s at j (joined_members ms more)

abbrev pub with_element : Elements → ℕ → Json → Elements
with_element js at j = joined_elements js (element at j no_elements)

abbrev pub with_member : Members → ℕ → List ℕ → ℕ → Json → Members
with_member ms n s at j = joined_members ms (member n s at j no_members)

-- what holds the value that is read: nothing; an array that begins at a byte, with these elements before; or an object, with these members before,
-- and the name of the value with the byte where that begins
pub data Stack : Type 0 where
  top : Stack
  in_array : Elements → ℕ → Stack → Stack
  in_object : Members → ℕ → ℕ → List ℕ → Stack → Stack

-- what a string is for: a value, or a name in an object that begins at a byte, with these members before
pub data Target : Type 0 where
  as_value : Target
  as_name : ℕ → Members → Target

-- The first number is how many levels are left. A value, array, object or string has the byte where it begins.
pub data Mode : Type 0 where
  before_value : ℕ → Stack → Mode
  -- after `[`
  in_brackets : ℕ → ℕ → Stack → Mode
  -- after `{`
  in_braces : ℕ → ℕ → Stack → Mode
  -- after a comma in an object
  before_name : ℕ → ℕ → Members → Stack → Mode
  after_name : ℕ → ℕ → Members → ℕ → List ℕ → Stack → Mode
  after_value : ℕ → ℕ → Json → Stack → Mode
  -- in a word, of which these bytes are left
  in_word : ℕ → List ℕ → ℕ → Json → ℕ → Stack → Mode
  in_number : NumberPart → List ℕ → ℕ → ℕ → Stack → Mode
  in_string : StringPart → List ℕ → ℕ → Target → ℕ → Stack → Mode

pub data Next : Type 0 where
  go : Mode → Next
  no : JsonCause → Next

pub data Outcome : Type 0 where
  done : ℕ → Json → Outcome
  stop : ℕ → JsonCause → Outcome

abbrev pub open_level : ℕ → (ℕ → Mode) → Next
open_level zero f = no cause.TooDeep
open_level (suc m) f = go (f m)

-- after the first byte of a value that is no number
abbrev pub begin_other : ℕ → Stack → ℕ → ℕ → Next
begin_other l k p x =
    if x == 34 then go (in_string text [] p as_value l k) else if x == 91 then open_level l (λ m. in_brackets m p k)
    else if x == 123 then open_level l (λ m. in_braces m p k) else if x == 110 then go (in_word 117 (codes "ll") p null l k)
    else if x == 116 then go (in_word 114 (codes "ue") p (boolean true) l k)
    else if x == 102 then go (in_word 97 (codes "lse") p (boolean false) l k) else no cause.UnexpectedByte

abbrev pub begin_number : Option NumberPart → Next → ℕ → Stack → ℕ → ℕ → Next
begin_number None other l k p x = other
begin_number (Some part) other l k p x = go (in_number part (x ∷ []) p l k)

-- after the first byte of a value
abbrev pub begin : ℕ → Stack → ℕ → ℕ → Next
begin l k p x = begin_number (number_next Start x) (begin_other l k p x) l k p x

abbrev pub blank_or : Mode → ℕ → Next → Next
blank_or m x other = if is_blank x then go m else other

-- after the first byte of a name
abbrev pub begin_name : ℕ → ℕ → Members → Stack → ℕ → ℕ → Next
begin_name l a ms k p x = if x == 34 then go (in_string text [] p (as_name a ms) l k) else no cause.UnexpectedByte

-- after the byte after a value
abbrev pub end_value : ℕ → ℕ → Json → Stack → ℕ → Next
end_value l at j top x = no cause.UnexpectedByte
end_value l at j (in_array js a k) x =
    if x == 44 then go (before_value l (in_array (with_element js at j) a k)) else if x == 93 then go (after_value (suc l) a (array (with_element js at j)) k)
    else no cause.UnexpectedByte
end_value l at j (in_object ms a n s k) x =
    if x == 44 then go (before_name l a (with_member ms n s at j) k)
    else if x == 125 then go (after_value (suc l) a (object (with_member ms n s at j)) k) else no cause.UnexpectedByte

abbrev pub next_after : ℕ → ℕ → Json → Stack → ℕ → Next
next_after l at j k x = blank_or (after_value l at j k) x (end_value l at j k x)

abbrev pub word_left : List ℕ → ℕ → Json → ℕ → Stack → Mode
word_left [] at j l k = after_value l at j k
word_left (y ∷ ys) at j l k = in_word y ys at j l k

abbrev pub number_goes : Option NumberPart → Next → List ℕ → ℕ → ℕ → Stack → Next
number_goes None other d at l k = other
number_goes (Some part) other d at l k = go (in_number part d at l k)

abbrev pub named : Target → List ℕ → ℕ → ℕ → Stack → Mode
named as_value s at l k = after_value l at (string s) k
named (as_name a ms) s at l k = after_name l a ms at s k

abbrev pub string_goes : StringNext → List ℕ → ℕ → Target → ℕ → Stack → Next
string_goes (goes part e) s at t l k = go (in_string part (s ++ e) at t l k)
string_goes stops s at t l k = no cause.UnexpectedByte

-- after the byte x at p
abbrev pub next : Mode → ℕ → ℕ → Next
next (before_value l k) p x = blank_or (before_value l k) x (begin l k p x)
next (in_brackets l a k) p x =
    blank_or (in_brackets l a k) x (if x == 93 then go (after_value (suc l) a (array no_elements) k) else begin l (in_array no_elements a k) p x)
next (in_braces l a k) p x =
    blank_or (in_braces l a k) x (if x == 125 then go (after_value (suc l) a (object no_members) k) else begin_name l a no_members k p x)
next (before_name l a ms k) p x = blank_or (before_name l a ms k) x (begin_name l a ms k p x)
next (after_name l a ms n s k) p x =
    blank_or (after_name l a ms n s k) x (if x == 58 then go (before_value l (in_object ms a n s k)) else no cause.UnexpectedByte)
next (after_value l at j k) p x = next_after l at j k x
next (in_word y ys at j l k) p x = if x == y then go (word_left ys at j l k) else no cause.UnexpectedByte
next (in_number part d at l k) p x =
    number_goes (number_next part x) (if is_final part then next_after l at (number d) k x else no cause.UnexpectedByte) (d ++ x ∷ []) at l k
next (in_string part s at t l k) p x = if is_text part && (x == 34) then go (named t s at l k) else string_goes (string_next part x) s at t l k

abbrev pub end_of : ℕ → ℕ → Json → Stack → Outcome
end_of p at j top = done at j
end_of p at j (in_array js a k) = stop p cause.UnexpectedEnd
end_of p at j (in_object ms a n s k) = stop p cause.UnexpectedEnd

-- at the end of the text
abbrev pub finish : Mode → ℕ → Outcome
finish (before_value l k) p = stop p cause.UnexpectedEnd
finish (in_brackets l a k) p = stop p cause.UnexpectedEnd
finish (in_braces l a k) p = stop p cause.UnexpectedEnd
finish (before_name l a ms k) p = stop p cause.UnexpectedEnd
finish (after_name l a ms n s k) p = stop p cause.UnexpectedEnd
finish (after_value l at j k) p = end_of p at j k
finish (in_word y ys at j l k) p = stop p cause.UnexpectedEnd
finish (in_number part d at l k) p = if is_final part then end_of p at (number d) k else stop p cause.UnexpectedEnd
finish (in_string part s at t l k) p = stop p cause.UnexpectedEnd

abbrev pub onward : Next → ℕ → (Mode → Outcome) → Outcome
onward (go m) p f = f m
onward (no c) p f = stop p c

unfoldable pub run : Mode → ℕ → List ℕ → Outcome
run m p [] = finish m p
run m p (x ∷ xs) = onward (next m p x) p (λ n. run n (p + 1) xs)
