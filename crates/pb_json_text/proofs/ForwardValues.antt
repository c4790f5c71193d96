-- The machine reads each value of the grammar.
use Rattle.std.proofs.Common.{◌≡◌, ℕ, suc, ◌+◌, List, [], ◌∷◌, ◌++◌, length, codes, Bool, true, false, ◌==◌, Option, Some, None, refl, sym, ap, ◌∙◌, subst, arith, inl, inr}
use Rattle.std.proofs.lemmas.Bool.Decides.{eqb_tells}
use Rattle.std.specs.Char.{is_ascii_digit}
use Rattle.pb_json_text.specs.declared.number.NumberPart.{NumberPart}
use Rattle.pb_json_text.specs.declared.number.NumberPart.TheVariants.{Start}
use Rattle.pb_json_text.specs.Json.{Json, null, boolean, number, string, array, object, Elements, no_elements, element, Members, no_members, member, Placed}
use Rattle.pb_json_text.specs.Grammar.{Place, Spells, is_blank, IsString, Around, IsValue, AreElements, AreMoreElements, AreMembers, AreMoreMembers, IsText}
use Rattle.pb_json_text.specs.Loops.Machine.{number_next, text, joined_elements, joined_members, with_element, with_member, Stack, top, in_array, in_object, as_value, as_name}
use Rattle.pb_json_text.specs.Loops.Machine.{Mode, before_value, in_brackets, in_braces, before_name, after_name, after_value, in_word, in_number, in_string}
use Rattle.pb_json_text.specs.Loops.Machine.{Next, go, done, begin, next, onward, run}
use Rattle.pb_json_text.specs.Loops.States.{Skips, run_begin}
use Rattle.pb_json_text.proofs.NumberLemmas.{number_ok, then_ok, number_accepted, digit_not}
use Rattle.pb_json_text.proofs.Forward.{run_end, run_spelled, plus_more, run_blanks, skips_value, skips_brackets, skips_braces, skips_name, skips_after_name, skips_after}
use Rattle.pb_json_text.proofs.Forward.{word_run, Shut, shut_blanks, shut_comma, shut_bracket, shut_brace, number_run, quoted_run, Starts, value_begins, brackets_begin}

number_starts : (x : ℕ) (part : NumberPart) → number_next Start x ≡ Some part → (is_blank x ≡ false) × ((x == 93) ≡ false)
number_starts x part h =
    elim (eqb_tells x 45) [
      | inl a ↦ rw a.1 (refl, refl)
      | inr a ↦ (let h2 = rw a.0 at h in elim (eqb_tells x 48) [
        | inl b ↦ rw b.1 (refl, refl)
        | inr b ↦ digit_starts x (is_ascii_digit x) refl (rw b.0 at h2)
      ])
    ]
  where
    digit_starts : (x : ℕ) (b : Bool) → is_ascii_digit x ≡ b → Rattle.std.specs.Prelude.if◌then◌else◌ b (Some Rattle.pb_json_text.specs.declared.number.NumberPart.TheVariants.Whole) None ≡ Some part
        → (is_blank x ≡ false) × ((x == 93) ≡ false)
    digit_starts x true e h = (
      rw (digit_not x 32 e (inl (omega arith)), digit_not x 9 e (inl (omega arith)), digit_not x 10 e (inl (omega arith)), digit_not x 13 e (inl (omega arith))) refl,
      digit_not x 93 e (inr (omega arith)),
    )
    digit_starts x false e h = absurd (cc h)

first_part : (x : ℕ) (w : List ℕ) (o : Option NumberPart) → number_next Start x ≡ o → then_ok o (λ q. number_ok q w) ≡ true → (part : NumberPart) × (number_next Start x ≡ Some part) × (number_ok part w ≡ true)
first_part x w None e h = absurd (cc h)
first_part x w (Some part) e h = (part, e, h)

some_number_starts : (d r : List ℕ) → number_ok Start d ≡ true → Starts (d ++ r)
some_number_starts [] r h = absurd (cc h)
some_number_starts (x ∷ w) r h = let f = first_part x w (number_next Start x) refl h in number_starts x f.0 f.1

value_starts : (j : Json) (l : ℕ) (h g : Place) → IsValue l j h g → Starts h.1
value_starts null l h g s = rw s.0 (refl, refl)
value_starts (boolean true) l h g s = rw s.0 (refl, refl)
value_starts (boolean false) l h g s = rw s.0 (refl, refl)
value_starts (number d) l h g (s, n) = rw s.0 (some_number_starts d g.1 (number_accepted d n))
value_starts (string c) l h g (w, s, n) = rw s.0 (refl, refl)
value_starts (array js) l h g (m, p, e, s, es) = rw s.0 (refl, refl)
value_starts (object ms) l h g (m, p, e, s, es) = rw s.0 (refl, refl)

begin_spelled : (l x : ℕ) (n : Mode) (k : Stack) (h g : Place) → Spells (x ∷ []) h g → begin l k h.0 x ≡ go n → run_begin l k h.0 h.1 ≡ run n g.0 g.1
begin_spelled l x n k h g s e = rw (s.0, s.1) (ap (λ (m : Next). onward m h.0 (λ n. run n (h.0 + 1) g.1)) e)

word_value :
    (x y : ℕ) (ys : List ℕ) (j : Json) (l : ℕ) (h g : Place) (k : Stack) → begin l k h.0 x ≡ go (in_word y ys h.0 j l k) → Spells (x ∷ y ∷ ys) h g
    → run_begin l k h.0 h.1 ≡ run (after_value l h.0 j k) g.0 g.1
word_value x y ys j l h g k e s =
    rw s.0 (ap (λ (m : Next). onward m h.0 (λ n. run n (h.0 + 1) ((y ∷ ys) ++ g.1))) e ∙ word_run y ys g.1 (h.0 + 1) h.0 j l k
    ∙ ap (λ (n : ℕ). run (after_value l h.0 j k) n g.1) (plus_more h.0 (length (y ∷ ys)) ∙ sym s.1))

number_value :
    (d : List ℕ) (l : ℕ) (h g : Place) (k : Stack) → Spells d h g → number_ok Start d ≡ true → Shut g.1
    → run_begin l k h.0 h.1 ≡ run (after_value l h.0 (number d) k) g.0 g.1
number_value [] l h g k s n shut = absurd (cc n)
number_value (x ∷ w) l h g k s n shut =
    let f = first_part x w (number_next Start x) refl n in
    rw s.0 (ap (λ (m : Next). onward m h.0 (λ n. run n (h.0 + 1) (w ++ g.1))) (begun f.0 f.1) ∙ number_run w f.0 (x ∷ []) g.1 (h.0 + 1) h.0 l k f.2 shut
    ∙ ap (λ (n : ℕ). run (after_value l h.0 (number (x ∷ w)) k) n g.1) (plus_more h.0 (length w) ∙ sym s.1))
  where
    begun : (part : NumberPart) → number_next Start x ≡ Some part → begin l k h.0 x ≡ go (in_number part (x ∷ []) h.0 l k)
    begun part e = rw e refl

-- how a value is read, whatever holds it
abbrev RunsAs : ℕ → Json → Type 0
RunsAs l j = (k : Stack) (h g : Place) → IsValue l j h g → Shut g.1 → run_begin l k h.0 h.1 ≡ run (after_value l h.0 j k) g.0 g.1

around_value :
    (l at : ℕ) (j : Json) (k : Stack) (h g : Place) → RunsAs l j → Around (λ q r. (at ≡ q.0) × IsValue l j q r) h g → Shut g.1
    → run (before_value l k) h.0 h.1 ≡ run (after_value l at j k) g.0 g.1
around_value l at j k h g f (p, q, b, (e, v), c) s =
    run_blanks (before_value l k) h p (skips_value l k) b ∙ value_begins l k p.0 p.1 (value_starts j l p q v) ∙ f k p q v (shut_blanks q g c s)
    ∙ run_blanks (after_value l p.0 j k) q g (skips_after l p.0 j k) c ∙ ap (λ (n : ℕ). run (after_value l n j k) g.0 g.1) (sym e)

around_first :
    (l a at : ℕ) (j : Json) (k : Stack) (h g : Place) → RunsAs l j → Around (λ q r. (at ≡ q.0) × IsValue l j q r) h g → Shut g.1
    → run (in_brackets l a k) h.0 h.1 ≡ run (after_value l at j (in_array no_elements a k)) g.0 g.1
around_first l a at j k h g f (p, q, b, (e, v), c) s =
    run_blanks (in_brackets l a k) h p (skips_brackets l a k) b ∙ brackets_begin l a k p.0 p.1 (value_starts j l p q v)
    ∙ f (in_array no_elements a k) p q v (shut_blanks q g c s)
    ∙ run_blanks (after_value l p.0 j (in_array no_elements a k)) q g (skips_after l p.0 j (in_array no_elements a k)) c
    ∙ ap (λ (n : ℕ). run (after_value l n j (in_array no_elements a k)) g.0 g.1) (sym e)

around_name :
    (m : Mode) (l a at : ℕ) (ms : Members) (s : List ℕ) (k : Stack) (h g : Place) → Skips m → ((p : ℕ) → next m p 34 ≡ go (in_string text [] p (as_name a ms) l k))
    → Around (λ q r. (at ≡ q.0) × IsString s q r) h g → run m h.0 h.1 ≡ run (after_name l a ms at s k) g.0 g.1
around_name m l a at ms s k h g skips quote (p, q, b, (e, v), c) =
    run_blanks m h p skips b ∙ quoted_run m s p q (as_name a ms) l k (quote p.0) v
    ∙ run_blanks (after_name l a ms p.0 s k) q g (skips_after_name l a ms p.0 s k) c
    ∙ ap (λ (n : ℕ). run (after_name l a ms n s k) g.0 g.1) (sym e)

joined_none : (js : Elements) → joined_elements js no_elements ≡ js
joined_none no_elements = refl
joined_none (element at j js) = ap (λ (r : Elements). element at j r) (joined_none js)

pub joined_with : (js : Elements) (at : ℕ) (j : Json) (more : Elements) → joined_elements (with_element js at j) more ≡ joined_elements js (element at j more)
joined_with no_elements at j more = refl
joined_with (element b i js) at j more = ap (λ (r : Elements). element b i r) (joined_with js at j more)

members_none : (ms : Members) → joined_members ms no_members ≡ ms
members_none no_members = refl
members_none (member n s at j ms) = ap (λ (r : Members). member n s at j r) (members_none ms)

pub members_with : (ms : Members) (n : ℕ) (s : List ℕ) (at : ℕ) (j : Json) (more : Members) → joined_members (with_member ms n s at j) more ≡ joined_members ms (member n s at j more)
members_with no_members n s at j more = refl
members_with (member o t b i ms) n s at j more = ap (λ (r : Members). member o t b i r) (members_with ms n s at j more)

more_shut : (js : Elements) (m : ℕ) (h g : Place) → AreMoreElements m js h g → Shut h.1
more_shut no_elements m h g s = shut_bracket h g s
more_shut (element at j js) m h g (o, p, s, v, more) = shut_comma h o s

members_shut : (ms : Members) (m : ℕ) (h g : Place) → AreMoreMembers m ms h g → Shut h.1
members_shut no_members m h g s = shut_brace h g s
members_shut (member n s at j ms) m h g (l, o, p, q, comma, name, colon, v, more) = shut_comma h l comma

mutual
  pub value_run : (j : Json) (l : ℕ) → RunsAs l j
  value_run null l k h g s shut = word_value 110 117 (codes "ll") null l h g k refl s
  value_run (boolean true) l k h g s shut = word_value 116 114 (codes "ue") (boolean true) l h g k refl s
  value_run (boolean false) l k h g s shut = word_value 102 97 (codes "lse") (boolean false) l h g k refl s
  value_run (number d) l k h g (s, n) shut = number_value d l h g k s (number_accepted d n) shut
  value_run (string s) l k h g v shut =
      value_begins_back l k h (value_starts (string s) l h g v) ∙ quoted_run (before_value l k) s h g as_value l k refl v
    where
      value_begins_back : (l : ℕ) (k : Stack) (h : Place) → Starts h.1 → run_begin l k h.0 h.1 ≡ run (before_value l k) h.0 h.1
      value_begins_back l k h s = sym (value_begins l k h.0 h.1 s)
  value_run (array js) l k h g (m, p, e, s, es) shut =
      subst (λ (n : ℕ). run_begin n k h.0 h.1 ≡ run (after_value n h.0 (array js) k) g.0 g.1) (sym e)
      (begin_spelled (suc m) 91 (in_brackets m h.0 k) k h p s refl ∙ elements_run js m h.0 k p g es)
  value_run (object ms) l k h g (m, p, e, s, es) shut =
      subst (λ (n : ℕ). run_begin n k h.0 h.1 ≡ run (after_value n h.0 (object ms) k) g.0 g.1) (sym e)
      (begin_spelled (suc m) 123 (in_braces m h.0 k) k h p s refl ∙ members_run ms m h.0 k p g es)

  elements_run : (js : Elements) (m a : ℕ) (k : Stack) (h g : Place) → AreElements m js h g → run (in_brackets m a k) h.0 h.1 ≡ run (after_value (suc m) a (array js) k) g.0 g.1
  elements_run no_elements m a k h g (p, b, s) =
      run_blanks (in_brackets m a k) h p (skips_brackets m a k) b ∙ run_spelled (in_brackets m a k) (after_value (suc m) a (array no_elements) k) 93 p g s refl
  elements_run (element at j js) m a k h g (p, v, more) =
      around_first m a at j k h p (value_run j m) v (more_shut js m p g more) ∙ more_elements_run js m a no_elements at j k p g more

  more_elements_run : (js : Elements) (m a : ℕ) (before : Elements) (at : ℕ) (j : Json) (k : Stack) (h g : Place) → AreMoreElements m js h g
      → run (after_value m at j (in_array before a k)) h.0 h.1 ≡ run (after_value (suc m) a (array (joined_elements (with_element before at j) js)) k) g.0 g.1
  more_elements_run no_elements m a before at j k h g s =
      run_spelled (after_value m at j (in_array before a k)) (after_value (suc m) a (array (with_element before at j)) k) 93 h g s refl
      ∙ ap (λ (d : Elements). run (after_value (suc m) a (array d) k) g.0 g.1) (sym (joined_none (with_element before at j)))
  more_elements_run (element at2 j2 js) m a before at j k h g (o, p, s, v, more) =
      run_spelled (after_value m at j (in_array before a k)) (before_value m (in_array (with_element before at j) a k)) 44 h o s refl
      ∙ around_value m at2 j2 (in_array (with_element before at j) a k) o p (value_run j2 m) v (more_shut js m p g more)
      ∙ more_elements_run js m a (with_element before at j) at2 j2 k p g more
      ∙ ap (λ (d : Elements). run (after_value (suc m) a (array d) k) g.0 g.1) (joined_with (with_element before at j) at2 j2 js)

  members_run : (ms : Members) (m a : ℕ) (k : Stack) (h g : Place) → AreMembers m ms h g → run (in_braces m a k) h.0 h.1 ≡ run (after_value (suc m) a (object ms) k) g.0 g.1
  members_run no_members m a k h g (p, b, s) =
      run_blanks (in_braces m a k) h p (skips_braces m a k) b ∙ run_spelled (in_braces m a k) (after_value (suc m) a (object no_members) k) 125 p g s refl
  members_run (member n s at j ms) m a k h g (q, o, p, name, colon, v, more) =
      around_name (in_braces m a k) m a n no_members s k h q (skips_braces m a k) (λ p. refl) name
      ∙ run_spelled (after_name m a no_members n s k) (before_value m (in_object no_members a n s k)) 58 q o colon refl
      ∙ around_value m at j (in_object no_members a n s k) o p (value_run j m) v (members_shut ms m p g more)
      ∙ more_members_run ms m a no_members n s at j k p g more

  more_members_run : (ms : Members) (m a : ℕ) (before : Members) (n : ℕ) (s : List ℕ) (at : ℕ) (j : Json) (k : Stack) (h g : Place) → AreMoreMembers m ms h g
      → run (after_value m at j (in_object before a n s k)) h.0 h.1 ≡ run (after_value (suc m) a (object (joined_members (with_member before n s at j) ms)) k) g.0 g.1
  more_members_run no_members m a before n s at j k h g e =
      run_spelled (after_value m at j (in_object before a n s k)) (after_value (suc m) a (object (with_member before n s at j)) k) 125 h g e refl
      ∙ ap (λ (d : Members). run (after_value (suc m) a (object d) k) g.0 g.1) (sym (members_none (with_member before n s at j)))
  more_members_run (member n2 s2 at2 j2 ms) m a before n s at j k h g (q, c, o, p, comma, name, colon, v, more) =
      run_spelled (after_value m at j (in_object before a n s k)) (before_name m a (with_member before n s at j) k) 44 h q comma refl
      ∙ around_name (before_name m a (with_member before n s at j) k) m a n2 (with_member before n s at j) s2 k q c (skips_name m a (with_member before n s at j) k) (λ p. refl) name
      ∙ run_spelled (after_name m a (with_member before n s at j) n2 s2 k) (before_value m (in_object (with_member before n s at j) a n2 s2 k)) 58 c o colon refl
      ∙ around_value m at2 j2 (in_object (with_member before n s at j) a n2 s2 k) o p (value_run j2 m) v (members_shut ms m p g more)
      ∙ more_members_run ms m a (with_member before n s at j) n2 s2 at2 j2 k p g more
      ∙ ap (λ (d : Members). run (after_value (suc m) a (object d) k) g.0 g.1) (members_with (with_member before n s at j) n2 s2 at2 j2 ms)

pub text_run : (l : ℕ) (v : Placed) (b : List ℕ) → IsText l v b → run (before_value l top) 0 b ≡ done v.0 v.1
text_run l v b (end, around) = around_value l v.0 v.1 top (0, b) (end, []) (value_run v.1 l) around tt ∙ run_end (after_value l v.0 v.1 top) end
