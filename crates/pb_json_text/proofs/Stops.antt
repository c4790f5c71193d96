-- Where the machine stops: no text begins with the bytes up to there and this one, and some text begins with those before.
use Rattle.std.proofs.Common.{◌≡◌, ℕ, suc, ◌+◌, ◌*◌, List, [], ◌∷◌, ◌++◌, length, Bool, true, false, ◌&&◌, Option, Some, None, refl, sym, ap, ◌∙◌, subst, arith}
use Rattle.std.specs.Prelude.{option_map, is_some, nat_le, nat_lt, if◌then◌else◌}
use Rattle.std.specs.Char.{digit_value}
use Rattle.pb_json_text.specs.declared.fault.JsonCause.{JsonCause}
use Rattle.pb_json_text.specs.declared.fault.JsonCause.TheVariants as cause
use Rattle.pb_json_text.specs.declared.number.NumberPart.{NumberPart}
use Rattle.pb_json_text.specs.declared.number.NumberPart.TheVariants.{Start, Minus, Zero, Whole, Point, Fraction, Letter, Sign, Exponent}
use Rattle.pb_json_text.specs.Json.{Json, Members, number, array, object, string, no_elements, no_members, Placed}
use Rattle.pb_json_text.specs.Loops.Machine.{is_final, string_next, is_text, StringPart, text, backslash, digits0, digits1, digits2, digits3, high, high_backslash, low0, low1, low2, low3, unit_next, goes}
use Rattle.pb_json_text.specs.Loops.Machine.{with_element, with_member, Stack, top, in_array, in_object, Target, as_value, as_name}
use Rattle.pb_json_text.specs.Loops.Machine.{Mode, before_value, in_brackets, in_braces, before_name, after_name, after_value, in_word, in_number, in_string}
use Rattle.pb_json_text.specs.Loops.Machine.{Next, go, no, done, stop, named, next, end_of, finish, onward, run}
use Rattle.pb_json_text.proofs.Deeper.{deeper, Shifted, shifted}
use Rattle.pb_json_text.proofs.NumberLemmas.{number_ok}
use Rattle.pb_json_text.proofs.StringLemmas.{content_of, on_digit_there, most_second}
use Rattle.pb_json_text.proofs.Forward.{run_byte, run_end, run_go, word_run, number_run, string_run, Shut, no_number, plus_more}

-- WHERE IT STOPS

-- the bytes from here on stop it
abbrev pub Stuck : Mode → ℕ → List ℕ → JsonCause → Type 0
Stuck m p [] c = c ≡ cause.UnexpectedEnd
Stuck m p (x ∷ xs) c = next m p x ≡ no c

pub record StopsAt (m : Mode) (p : ℕ) (b : List ℕ) (q : ℕ) (c : JsonCause) : Type 0 where
  pub front : List ℕ
  pub rest : List ℕ
  pub mode : Mode
  pub joined : b ≡ front ++ rest
  pub place : q ≡ p + length front
  pub same : (z : List ℕ) → run m p (front ++ z) ≡ run mode q z
  pub same_deeper : (z : List ℕ) → run (deeper m) p (front ++ z) ≡ run (deeper mode) q z
  pub stuck : Stuck mode q rest c

end_stop : (k : Stack) (p at : ℕ) (j : Json) (q : ℕ) (c : JsonCause) → end_of p at j k ≡ stop q c → (q ≡ p) × (c ≡ cause.UnexpectedEnd)
end_stop top p at j q c h = absurd (cc h)
end_stop (in_array d a k) p at j q c h = (cc h, cc h)
end_stop (in_object d a n s k) p at j q c h = (cc h, cc h)

number_stop : (b : Bool) (k : Stack) (p at : ℕ) (j : Json) (q : ℕ) (c : JsonCause) → (if b then end_of p at j k else stop p cause.UnexpectedEnd) ≡ stop q c → (q ≡ p) × (c ≡ cause.UnexpectedEnd)
number_stop true k p at j q c h = end_stop k p at j q c h
number_stop false k p at j q c h = (cc h, cc h)

finish_stop : (m : Mode) (p q : ℕ) (c : JsonCause) → finish m p ≡ stop q c → (q ≡ p) × (c ≡ cause.UnexpectedEnd)
finish_stop (before_value l k) p q c h = (cc h, cc h)
finish_stop (in_brackets l a k) p q c h = (cc h, cc h)
finish_stop (in_braces l a k) p q c h = (cc h, cc h)
finish_stop (before_name l a d k) p q c h = (cc h, cc h)
finish_stop (after_name l a d n s k) p q c h = (cc h, cc h)
finish_stop (after_value l at j k) p q c h = end_stop k p at j q c h
finish_stop (in_word y ys at j l k) p q c h = (cc h, cc h)
finish_stop (in_number part d at l k) p q c h = number_stop (is_final part) k p at (number d) q c h
finish_stop (in_string part s at t l k) p q c h = (cc h, cc h)

deeper_go : (m n : Mode) (p x : ℕ) → next m p x ≡ go n → next (deeper m) p x ≡ go (deeper n)
deeper_go m n p x e = let s = shifted m p x in subst (λ (k : Next). Shifted k (next (deeper m) p x)) e s.is

pub stops_at : (b : List ℕ) (m : Mode) (p q : ℕ) (c : JsonCause) → run m p b ≡ stop q c → StopsAt m p b q c
stops_at [] m p q c h =
    let f = finish_stop m p q c (sym (run_end m p) ∙ h) in
    record { front = []; rest = []; mode = m; joined = refl; place = f.0 ∙ omega arith; same = λ z. ap (λ (n : ℕ). run m n z) (sym f.0); same_deeper = λ z. ap (λ (n : ℕ). run (deeper m) n z) (sym f.0); stuck = f.1 }
stops_at (x ∷ xs) m p q c h = by_next (next m p x) refl (sym (run_byte m p x xs) ∙ h) (λ n e. stops_at xs n (p + 1) q c e)
  where
    by_next : (n : Next) → next m p x ≡ n → onward n p (λ n. run n (p + 1) xs) ≡ stop q c → ((n : Mode) → run n (p + 1) xs ≡ stop q c → StopsAt n (p + 1) xs q c)
        → StopsAt m p (x ∷ xs) q c
    by_next (go n) e h f =
        let r = f n h in record {
          front = x ∷ r.front;
          rest = r.rest;
          mode = r.mode;
          joined = ap (λ (v : List ℕ). x ∷ v) r.joined;
          place = r.place ∙ plus_more p (length r.front);
          same = λ z. run_go m n p x (r.front ++ z) e ∙ r.same z;
          same_deeper = λ z. run_go (deeper m) (deeper n) p x (r.front ++ z) (deeper_go m n p x e) ∙ r.same_deeper z;
          stuck = r.stuck;
        }
    by_next (no d) e h f =
        let same : p ≡ q = cc h in
        let one : d ≡ c = cc h in
        record {
          front = [];
          rest = x ∷ xs;
          mode = m;
          joined = refl;
          place = sym same ∙ omega arith;
          same = λ z. ap (λ (n : ℕ). run m n z) same;
          same_deeper = λ z. ap (λ (n : ℕ). run (deeper m) n z) same;
          stuck = ap (λ (n : ℕ). next m n x) (sym same) ∙ e ∙ ap no one;
        }

-- it stops whatever follows the byte
pub stuck_stops : (m : Mode) (q x : ℕ) (c : JsonCause) (z : List ℕ) → next m q x ≡ no c → run m q (x ∷ z) ≡ stop q c
stuck_stops m q x c z e = run_byte m q x z ∙ ap (λ (k : Next). onward k q (λ n. run n (q + 1) z)) e

-- HOW EACH STATE CAN GO ON TO THE END

abbrev closing : Stack → List ℕ
closing top = []
closing (in_array d a k) = 93 ∷ closing k
closing (in_object d a n s k) = 125 ∷ closing k

closing_shut : (k : Stack) → Shut (closing k)
closing_shut top = tt
closing_shut (in_array d a k) = λ part. no_number part 93 refl refl refl refl refl refl refl
closing_shut (in_object d a n s k) = λ part. no_number part 125 refl refl refl refl refl refl refl

-- some bytes lead to the end
abbrev pub Ends : Mode → ℕ → Type 0
Ends m p = (z : List ℕ) × (v : Placed) × (run m p z ≡ done v.0 v.1)

abbrev EndsBy : Mode → ℕ → List ℕ → Type 0
EndsBy m p z = (v : Placed) × (run m p z ≡ done v.0 v.1)

after_ends : (k : Stack) (l at : ℕ) (j : Json) (p : ℕ) → EndsBy (after_value l at j k) p (closing k)
after_ends top l at j p = ((at, j), run_end (after_value l at j top) p)
after_ends (in_array d a k) l at j p =
    let r = after_ends k (suc l) a (array (with_element d at j)) (p + 1) in
    (r.0, run_go (after_value l at j (in_array d a k)) (after_value (suc l) a (array (with_element d at j)) k) p 93 (closing k) refl ∙ r.1)
after_ends (in_object d a n s k) l at j p =
    let r = after_ends k (suc l) a (object (with_member d n s at j)) (p + 1) in
    (r.0, run_go (after_value l at j (in_object d a n s k)) (after_value (suc l) a (object (with_member d n s at j)) k) p 125 (closing k) refl ∙ r.1)

one_more : (m n : Mode) (p x : ℕ) (z : List ℕ) → next m p x ≡ go n → EndsBy n (p + 1) z → EndsBy m p (x ∷ z)
one_more m n p x z e (v, h) = (v, run_go m n p x z e ∙ h)

value_ends : (l : ℕ) (k : Stack) (p : ℕ) → EndsBy (before_value l k) p (34 ∷ 34 ∷ closing k)
value_ends l k p =
    one_more (before_value l k) (in_string text [] p as_value l k) p 34 (34 ∷ closing k) refl
    (one_more (in_string text [] p as_value l k) (after_value l p (string []) k) (p + 1) 34 (closing k) refl (after_ends k l p (string []) (p + 1 + 1)))

name_ends : (l a : ℕ) (d : Members) (n : ℕ) (s : List ℕ) (k : Stack) (p : ℕ) → EndsBy (after_name l a d n s k) p (58 ∷ 34 ∷ 34 ∷ 125 ∷ closing k)
name_ends l a d n s k p =
    one_more (after_name l a d n s k) (before_value l (in_object d a n s k)) p 58 (34 ∷ 34 ∷ 125 ∷ closing k) refl (value_ends l (in_object d a n s k) (p + 1))

-- NUMBERS

abbrev number_rest : NumberPart → List ℕ
number_rest Start = 48 ∷ []
number_rest Minus = 48 ∷ []
number_rest Zero = []
number_rest Whole = []
number_rest Point = 48 ∷ []
number_rest Fraction = []
number_rest Letter = 48 ∷ []
number_rest Sign = 48 ∷ []
number_rest Exponent = []

number_rest_ok : (part : NumberPart) → number_ok part (number_rest part) ≡ true
number_rest_ok Start = refl
number_rest_ok Minus = refl
number_rest_ok Zero = refl
number_rest_ok Whole = refl
number_rest_ok Point = refl
number_rest_ok Fraction = refl
number_rest_ok Letter = refl
number_rest_ok Sign = refl
number_rest_ok Exponent = refl

-- STRINGS

abbrev SomeContent : StringPart → Type 0
SomeContent part = (w u : List ℕ) × (content_of part w ≡ Some u)

some_of : (part : StringPart) (w : List ℕ) → is_some (content_of part w) ≡ true → SomeContent part
some_of part w h = by_option (content_of part w) refl h
  where
    by_option : (o : Option (List ℕ)) → content_of part w ≡ o → is_some o ≡ true → SomeContent part
    by_option None e h = absurd (cc h)
    by_option (Some u) e h = (w, u, e)

-- after a part, a byte that leads to another
after_byte : (part q : StringPart) (x : ℕ) → string_next part x ≡ goes q [] → is_text part ≡ false → SomeContent q → SomeContent part
after_byte part q x e f (w, u, h) = (x ∷ w, u, rw (f, e) (rw h refl))

high_content : (u : ℕ) → SomeContent (high u)
high_content u = some_of (high u) (92 ∷ 117 ∷ 100 ∷ 99 ∷ 48 ∷ 48 ∷ []) refl

text_content : SomeContent text
text_content = ([], [], refl)

unit_content : (u : ℕ) (part : StringPart) (x : ℕ) → string_next part x ≡ unit_next u → is_text part ≡ false → SomeContent part
unit_content u part x e f = by_test (nat_le 55296 u && nat_lt u 57344) refl
  where
    by_test : (b : Bool) → (nat_le 55296 u && nat_lt u 57344) ≡ b → SomeContent part
    by_test true t = after_byte part (high u) x (e ∙ rw t refl) f (high_content u)
    by_test false t = (x ∷ [], Rattle.std.specs.Prelude.encode_utf8 u ++ [], rw (f, e) (rw t refl))

digits3_content : (v : ℕ) → SomeContent (digits3 v)
digits3_content v = unit_content (v * 16 + 0) (digits3 v) 48 refl refl

digits2_content : (v : ℕ) → SomeContent (digits2 v)
digits2_content v = after_byte (digits2 v) (digits3 (v * 16 + 0)) 48 refl refl (digits3_content (v * 16 + 0))

digits1_content : (a : ℕ) → SomeContent (digits1 a)
digits1_content a =
    after_byte (digits1 a) (digits2 (a * 16 + 0)) 48
    (on_digit_there 0 (most_second a) 48 (λ b. goes (digits2 (a * 16 + b)) []) (omega arith) (omega arith)) refl (digits2_content (a * 16 + 0))

string_content : (part : StringPart) → SomeContent part
string_content text = text_content
string_content backslash = some_of backslash (110 ∷ []) refl
string_content digits0 = some_of digits0 (48 ∷ 48 ∷ 48 ∷ 48 ∷ []) refl
string_content (digits1 a) = digits1_content a
string_content (digits2 v) = digits2_content v
string_content (digits3 v) = digits3_content v
string_content (high u) = high_content u
string_content (high_backslash u) = some_of (high_backslash u) (117 ∷ 100 ∷ 99 ∷ 48 ∷ 48 ∷ []) refl
string_content (low0 u) = some_of (low0 u) (100 ∷ 99 ∷ 48 ∷ 48 ∷ []) refl
string_content (low1 u) = some_of (low1 u) (99 ∷ 48 ∷ 48 ∷ []) refl
string_content (low2 u v) = some_of (low2 u v) (48 ∷ 48 ∷ []) refl
string_content (low3 u v) = some_of (low3 u v) (48 ∷ []) refl

of_ends : (m : Mode) (p : ℕ) (z : List ℕ) → EndsBy m p z → Ends m p
of_ends m p z (v, h) = (z, v, h)

named_ends : (t : Target) (s : List ℕ) (at l : ℕ) (k : Stack) (p : ℕ) → Ends (named t s at l k) p
named_ends as_value s at l k p = of_ends (after_value l at (string s) k) p (closing k) (after_ends k l at (string s) p)
named_ends (as_name a d) s at l k p = of_ends (after_name l a d at s k) p (58 ∷ 34 ∷ 34 ∷ 125 ∷ closing k) (name_ends l a d at s k p)

string_ends : (part : StringPart) (s : List ℕ) (at : ℕ) (t : Target) (l : ℕ) (k : Stack) (p : ℕ) → SomeContent part → Ends (in_string part s at t l k) p
string_ends part s at t l k p (w, u, h) =
    let r = named_ends t (s ++ u) at l k (p + suc (length w)) in
    (w ++ 34 ∷ r.0, r.1, string_run w part s u r.0 p at t l k h ∙ r.2)

pub ends : (m : Mode) (p : ℕ) → Ends m p
ends (before_value l k) p = of_ends (before_value l k) p (34 ∷ 34 ∷ closing k) (value_ends l k p)
ends (in_brackets l a k) p =
    of_ends (in_brackets l a k) p (93 ∷ closing k)
    (one_more (in_brackets l a k) (after_value (suc l) a (array no_elements) k) p 93 (closing k) refl (after_ends k (suc l) a (array no_elements) (p + 1)))
ends (in_braces l a k) p =
    of_ends (in_braces l a k) p (125 ∷ closing k)
    (one_more (in_braces l a k) (after_value (suc l) a (object no_members) k) p 125 (closing k) refl (after_ends k (suc l) a (object no_members) (p + 1)))
ends (before_name l a d k) p =
    of_ends (before_name l a d k) p (34 ∷ 34 ∷ 58 ∷ 34 ∷ 34 ∷ 125 ∷ closing k)
    (one_more (before_name l a d k) (in_string text [] p (as_name a d) l k) p 34 (34 ∷ 58 ∷ 34 ∷ 34 ∷ 125 ∷ closing k) refl
    (one_more (in_string text [] p (as_name a d) l k) (after_name l a d p [] k) (p + 1) 34 (58 ∷ 34 ∷ 34 ∷ 125 ∷ closing k) refl (name_ends l a d p [] k (p + 1 + 1))))
ends (after_name l a d n s k) p = of_ends (after_name l a d n s k) p (58 ∷ 34 ∷ 34 ∷ 125 ∷ closing k) (name_ends l a d n s k p)
ends (after_value l at j k) p = of_ends (after_value l at j k) p (closing k) (after_ends k l at j p)
ends (in_word y ys at j l k) p =
    let r = after_ends k l at j (p + length (y ∷ ys)) in ((y ∷ ys) ++ closing k, r.0, word_run y ys (closing k) p at j l k ∙ r.1)
ends (in_number part d at l k) p =
    let r = after_ends k l at (number (d ++ number_rest part)) (p + length (number_rest part)) in
    (number_rest part ++ closing k, r.0, number_run (number_rest part) part d (closing k) p at l k (number_rest_ok part) (closing_shut k) ∙ r.1)
ends (in_string part s at t l k) p = string_ends part s at t l k p (string_content part)
