-- Where the machine has a value at the end, the bytes are a text of it.
use Rattle.std.proofs.Common.{◌≡◌, ℕ, zero, suc, ◌+◌, List, [], ◌∷◌, ◌++◌, length, codes, Bool, true, false, ◌==◌, ◌&&◌, Option, Some, None, refl, sym, ap, ◌∙◌, subst, arith, inl, inr, append_assoc, append-nil}
use Rattle.std.specs.Prelude.{if◌then◌else◌}
use Rattle.std.proofs.lemmas.Bool.Decides.{eqb_tells}
use Rattle.pb_json_text.specs.declared.number.NumberPart.{NumberPart}
use Rattle.pb_json_text.specs.declared.number.NumberPart.TheVariants.{Start}
use Rattle.pb_json_text.specs.Json.{Json, null, boolean, number, string, array, object, Elements, no_elements, element, Members, no_members, member, Placed}
use Rattle.pb_json_text.specs.Grammar.{Place, Spells, is_blank, Blanks, IsString, Around, IsValue, AreElements, AreMoreElements, AreMembers, AreMoreMembers, IsText}
use Rattle.pb_json_text.specs.Loops.Machine.{number_next, is_final, StringPart, text, StringNext, goes, stops, string_next, is_text}
use Rattle.pb_json_text.specs.Loops.Machine.{joined_elements, joined_members, with_element, with_member, Stack, top, in_array, in_object, Target, as_value, as_name}
use Rattle.pb_json_text.specs.Loops.Machine.{Mode, before_value, in_brackets, in_braces, before_name, after_name, after_value, in_word, in_number, in_string}
use Rattle.pb_json_text.specs.Loops.Machine.{Next, go, no, done, stop, begin, begin_number, begin_other, begin_name, open_level, end_value, next_after, word_left, named, number_goes, string_goes, next, end_of, finish, onward, run}
use Rattle.pb_json_text.proofs.NumberLemmas.{number_ok, then_ok, accepted_number}
use Rattle.pb_json_text.proofs.StringLemmas.{content_of, content_characters}
use Rattle.pb_json_text.proofs.Forward.{run_byte, run_end, plus_more}
use Rattle.pb_json_text.proofs.ForwardValues.{joined_with, members_with}

-- WHAT IS LEFT IN EACH STATE

-- after a value
abbrev Rest : Stack → ℕ → ℕ → Json → Place → Placed → Type 0
Rest top l at j h v = (end : ℕ) × Blanks h (end, []) × (v.0 ≡ at) × (v.1 ≡ j)
Rest (in_array d a k) l at j h v =
    (q g : Place) × (js : Elements) × Blanks h q × AreMoreElements l js q g × Rest k (suc l) a (array (joined_elements d (element at j js))) g v
Rest (in_object d a n s k) l at j h v =
    (q g : Place) × (ms : Members) × Blanks h q × AreMoreMembers l ms q g × Rest k (suc l) a (object (joined_members d (member n s at j ms))) g v

-- from the first byte of a value on
abbrev Begun : ℕ → Stack → Place → Placed → Type 0
Begun l k h v = (q : Place) × (j : Json) × IsValue l j h q × Rest k l h.0 j q v

abbrev ValueLeft : ℕ → Stack → Place → Placed → Type 0
ValueLeft l k h v = (p : Place) × Blanks h p × Begun l k p v

abbrev AfterName : ℕ → ℕ → Members → ℕ → List ℕ → Stack → Place → Placed → Type 0
AfterName l a d n s k h v = (q r : Place) × Blanks h q × Spells (codes ":") q r × ValueLeft l (in_object d a n s k) r v

abbrev NameBegun : ℕ → ℕ → Members → Stack → Place → Placed → Type 0
NameBegun l a d k h v = (q : Place) × (s : List ℕ) × IsString s h q × AfterName l a d h.0 s k q v

abbrev NameLeft : ℕ → ℕ → Members → Stack → Place → Placed → Type 0
NameLeft l a d k h v = (p : Place) × Blanks h p × NameBegun l a d k p v

abbrev NamedLeft : Target → List ℕ → ℕ → ℕ → Stack → Place → Placed → Type 0
NamedLeft as_value s at l k h v = Rest k l at (string s) h v
NamedLeft (as_name a d) s at l k h v = AfterName l a d at s k h v

abbrev Left : Mode → Place → Placed → Type 0
Left (before_value l k) h v = ValueLeft l k h v
Left (in_brackets l a k) h v = (g : Place) × (js : Elements) × AreElements l js h g × Rest k (suc l) a (array js) g v
Left (in_braces l a k) h v = (g : Place) × (ms : Members) × AreMembers l ms h g × Rest k (suc l) a (object ms) g v
Left (before_name l a d k) h v = NameLeft l a d k h v
Left (after_name l a d n s k) h v = AfterName l a d n s k h v
Left (after_value l at j k) h v = Rest k l at j h v
Left (in_word y ys at j l k) h v = (g : Place) × Spells (y ∷ ys) h g × Rest k l at j g v
Left (in_number part d at l k) h v =
    (w : List ℕ) × (g : Place) × Spells w h g × (number_ok part w ≡ true) × Rest k l at (number (d ++ w)) g v
Left (in_string part s at t l k) h v =
    (w u : List ℕ) × (g : Place) × Spells (w ++ 34 ∷ []) h g × (content_of part w ≡ Some u) × NamedLeft t (s ++ u) at l k g v

-- what the bytes after the first one show
abbrev Later : ℕ → List ℕ → Placed → Type 0
Later p xs v = (n : Mode) → run n (p + 1) xs ≡ done v.0 v.1 → Left n (p + 1, xs) v

abbrev Onward : Next → ℕ → List ℕ → Placed → Type 0
Onward n p xs v = onward n p (λ m. run m (p + 1) xs) ≡ done v.0 v.1

-- ONE BYTE MORE

spells_more : (x : ℕ) (w : List ℕ) (p : ℕ) (xs : List ℕ) (g : Place) → Spells w (p + 1, xs) g → Spells (x ∷ w) (p, x ∷ xs) g
spells_more x w p xs g s = (ap (λ (c : List ℕ). x ∷ c) s.0, s.1 ∙ plus_more p (length w))

spells_one : (x p : ℕ) (xs : List ℕ) → Spells (x ∷ []) (p, x ∷ xs) (p + 1, xs)
spells_one x p xs = (refl, refl)

no_blanks : (h : Place) → Blanks h h
no_blanks h = ([], (refl, omega arith), tt)

blanks_more : (x p : ℕ) (xs : List ℕ) (g : Place) → is_blank x ≡ true → Blanks (p + 1, xs) g → Blanks (p, x ∷ xs) g
blanks_more x p xs g e (w, s, b) = (x ∷ w, spells_more x w p xs g s, (e, b))

around_more : (V : Place → Place → Type 0) (x p : ℕ) (xs : List ℕ) (g : Place) → is_blank x ≡ true → Around V (p + 1, xs) g → Around V (p, x ∷ xs) g
around_more V x p xs g e (q, r, b, v, c) = (q, r, blanks_more x p xs q e b, v, c)

rest_more : (k : Stack) (l at : ℕ) (j : Json) (x p : ℕ) (xs : List ℕ) (v : Placed) → is_blank x ≡ true → Rest k l at j (p + 1, xs) v → Rest k l at j (p, x ∷ xs) v
rest_more top l at j x p xs v e (end, b, c, d) = (end, blanks_more x p xs (end, []) e b, c, d)
rest_more (in_array d a k) l at j x p xs v e (q, g, js, b, more, r) = (q, g, js, blanks_more x p xs q e b, more, r)
rest_more (in_object d a n s k) l at j x p xs v e (q, g, ms, b, more, r) = (q, g, ms, blanks_more x p xs q e b, more, r)

elements_more : (l : ℕ) (js : Elements) (x p : ℕ) (xs : List ℕ) (g : Place) → is_blank x ≡ true → AreElements l js (p + 1, xs) g → AreElements l js (p, x ∷ xs) g
elements_more l no_elements x p xs g e (q, b, s) = (q, blanks_more x p xs q e b, s)
elements_more l (element at j js) x p xs g e (q, v, more) = (q, around_more (λ q r. (at ≡ q.0) × IsValue l j q r) x p xs q e v, more)

members_more : (l : ℕ) (ms : Members) (x p : ℕ) (xs : List ℕ) (g : Place) → is_blank x ≡ true → AreMembers l ms (p + 1, xs) g → AreMembers l ms (p, x ∷ xs) g
members_more l no_members x p xs g e (q, b, s) = (q, blanks_more x p xs q e b, s)
members_more l (member n s at j ms) x p xs g e (o, q, r, name, colon, v, more) =
    (o, q, r, around_more (λ q r. (n ≡ q.0) × IsString s q r) x p xs o e name, colon, v, more)

by_blank : {X : Type 0} (x : ℕ) → (is_blank x ≡ true → X) → (is_blank x ≡ false → X) → X
by_blank {X} x f g = by_test (is_blank x) refl
  where
    by_test : (b : Bool) → is_blank x ≡ b → X
    by_test true e = f e
    by_test false e = g e

-- AFTER THE FIRST BYTE OF A VALUE

opened_array : (l : ℕ) (k : Stack) (p : ℕ) (xs : List ℕ) (v : Placed) → Later p xs v → Onward (open_level l (λ m. in_brackets m p k)) p xs v → Begun l k (p, 91 ∷ xs) v
opened_array zero k p xs v f h = absurd (cc h)
opened_array (suc m) k p xs v f h =
    let r = f (in_brackets m p k) h in (r.0, array r.1, (m, (p + 1, xs), refl, spells_one 91 p xs, r.2), r.3)

opened_object : (l : ℕ) (k : Stack) (p : ℕ) (xs : List ℕ) (v : Placed) → Later p xs v → Onward (open_level l (λ m. in_braces m p k)) p xs v → Begun l k (p, 123 ∷ xs) v
opened_object zero k p xs v f h = absurd (cc h)
opened_object (suc m) k p xs v f h =
    let r = f (in_braces m p k) h in (r.0, object r.1, (m, (p + 1, xs), refl, spells_one 123 p xs, r.2), r.3)

begun_other : (l : ℕ) (k : Stack) (p x : ℕ) (xs : List ℕ) (v : Placed) → Later p xs v → Onward (begin_other l k p x) p xs v → Begun l k (p, x ∷ xs) v
begun_other l k p x xs v f h =
    elim (eqb_tells x 34) [
      | inl a ↦ subst (λ (n : ℕ). Begun l k (p, n ∷ xs) v) (sym a.1) (
          let r = f (in_string text [] p as_value l k) (rw a.0 at h) in
          (r.2, string r.1, (r.0, spells_more 34 (r.0 ++ 34 ∷ []) p xs r.2 r.3, content_characters r.0 r.1 r.4), r.5))
      | inr a ↦ (let h2 = rw a.0 at h in elim (eqb_tells x 91) [
        | inl b ↦ subst (λ (n : ℕ). Begun l k (p, n ∷ xs) v) (sym b.1) (opened_array l k p xs v f (rw b.0 at h2))
        | inr b ↦ (let h3 = rw b.0 at h2 in elim (eqb_tells x 123) [
          | inl c ↦ subst (λ (n : ℕ). Begun l k (p, n ∷ xs) v) (sym c.1) (opened_object l k p xs v f (rw c.0 at h3))
          | inr c ↦ (let h4 = rw c.0 at h3 in elim (eqb_tells x 110) [
            | inl d ↦ subst (λ (n : ℕ). Begun l k (p, n ∷ xs) v) (sym d.1) (
                let r = f (in_word 117 (codes "ll") p null l k) (rw d.0 at h4) in (r.0, null, spells_more 110 (117 ∷ codes "ll") p xs r.0 r.1, r.2))
            | inr d ↦ (let h5 = rw d.0 at h4 in elim (eqb_tells x 116) [
              | inl e ↦ subst (λ (n : ℕ). Begun l k (p, n ∷ xs) v) (sym e.1) (
                  let r = f (in_word 114 (codes "ue") p (boolean true) l k) (rw e.0 at h5) in (r.0, boolean true, spells_more 116 (114 ∷ codes "ue") p xs r.0 r.1, r.2))
              | inr e ↦ (let h6 = rw e.0 at h5 in elim (eqb_tells x 102) [
                | inl g ↦ subst (λ (n : ℕ). Begun l k (p, n ∷ xs) v) (sym g.1) (
                    let r = f (in_word 97 (codes "lse") p (boolean false) l k) (rw g.0 at h6) in (r.0, boolean false, spells_more 102 (97 ∷ codes "lse") p xs r.0 r.1, r.2))
                | inr g ↦ absurd (cc (rw g.0 at h6))
              ])
            ])
          ])
        ])
      ])
    ]

begun_number : (o : Option NumberPart) (l : ℕ) (k : Stack) (p x : ℕ) (xs : List ℕ) (v : Placed) → number_next Start x ≡ o → Later p xs v
    → Onward (begin_number o (begin_other l k p x) l k p x) p xs v → Begun l k (p, x ∷ xs) v
begun_number None l k p x xs v e f h = begun_other l k p x xs v f h
begun_number (Some part) l k p x xs v e f h =
    let r = f (in_number part (x ∷ []) p l k) h in
    (r.1, number (x ∷ r.0), (spells_more x r.0 p xs r.1 r.2, accepted_number (x ∷ r.0) (ap (λ (o : Option NumberPart). then_ok o (λ q. number_ok q r.0)) e ∙ r.3)), r.4)

begun : (l : ℕ) (k : Stack) (p x : ℕ) (xs : List ℕ) (v : Placed) → Later p xs v → Onward (begin l k p x) p xs v → Begun l k (p, x ∷ xs) v
begun l k p x xs v f h = begun_number (number_next Start x) l k p x xs v refl f h

name_begun : (l a : ℕ) (d : Members) (k : Stack) (p x : ℕ) (xs : List ℕ) (v : Placed) → Later p xs v → Onward (begin_name l a d k p x) p xs v → NameBegun l a d k (p, x ∷ xs) v
name_begun l a d k p x xs v f h =
    elim (eqb_tells x 34) [
      | inl e ↦ subst (λ (n : ℕ). NameBegun l a d k (p, n ∷ xs) v) (sym e.1) (
          let r = f (in_string text [] p (as_name a d) l k) (rw e.0 at h) in
          (r.2, r.1, (r.0, spells_more 34 (r.0 ++ 34 ∷ []) p xs r.2 r.3, content_characters r.0 r.1 r.4), r.5))
      | inr e ↦ absurd (cc (rw e.0 at h))
    ]

-- BYTES OF EACH STATE

byte_before_value : (l : ℕ) (k : Stack) (p x : ℕ) (xs : List ℕ) (v : Placed) → Later p xs v → Onward (next (before_value l k) p x) p xs v → ValueLeft l k (p, x ∷ xs) v
byte_before_value l k p x xs v f h =
    by_blank x
    (λ e. let r = f (before_value l k) (rw e at h) in (r.0, blanks_more x p xs r.0 e r.1, r.2))
    (λ e. ((p, x ∷ xs), no_blanks (p, x ∷ xs), begun l k p x xs v f (rw e at h)))

first_element : (l a : ℕ) (k : Stack) (h : Place) (v : Placed) → Begun l (in_array no_elements a k) h v → Left (in_brackets l a k) h v
first_element l a k h v (q, j, is, (o, g, js, b, more, r)) = (g, element h.0 j js, (o, (h, q, no_blanks h, (refl, is), b), more), r)

byte_in_brackets : (l a : ℕ) (k : Stack) (p x : ℕ) (xs : List ℕ) (v : Placed) → Later p xs v → Onward (next (in_brackets l a k) p x) p xs v → Left (in_brackets l a k) (p, x ∷ xs) v
byte_in_brackets l a k p x xs v f h =
    by_blank x
    (λ e. let r = f (in_brackets l a k) (rw e at h) in (r.0, r.1, elements_more l r.1 x p xs r.0 e r.2, r.3))
    (λ e. let h2 = rw e at h in elim (eqb_tells x 93) [
      | inl c ↦ ((p + 1, xs), no_elements, ((p, x ∷ xs), no_blanks (p, x ∷ xs), subst (λ (n : ℕ). Spells (codes "]") (p, n ∷ xs) (p + 1, xs)) (sym c.1) (spells_one 93 p xs)), f (after_value (suc l) a (array no_elements) k) (rw c.0 at h2))
      | inr c ↦ first_element l a k (p, x ∷ xs) v (begun l (in_array no_elements a k) p x xs v f (rw c.0 at h2))
    ])

first_member : (l a : ℕ) (k : Stack) (h : Place) (v : Placed) → NameBegun l a no_members k h v → Left (in_braces l a k) h v
first_member l a k h v (q, s, is, (c, d, b, colon, (p, b2, (o, j, is_value, (e, g, ms, b3, more, r))))) =
    (g, member h.0 s p.0 j ms, (c, d, e, (h, q, no_blanks h, (refl, is), b), colon, (p, o, b2, (refl, is_value), b3), more), r)

byte_in_braces : (l a : ℕ) (k : Stack) (p x : ℕ) (xs : List ℕ) (v : Placed) → Later p xs v → Onward (next (in_braces l a k) p x) p xs v → Left (in_braces l a k) (p, x ∷ xs) v
byte_in_braces l a k p x xs v f h =
    by_blank x
    (λ e. let r = f (in_braces l a k) (rw e at h) in (r.0, r.1, members_more l r.1 x p xs r.0 e r.2, r.3))
    (λ e. let h2 = rw e at h in elim (eqb_tells x 125) [
      | inl c ↦ ((p + 1, xs), no_members, ((p, x ∷ xs), no_blanks (p, x ∷ xs), subst (λ (n : ℕ). Spells (codes "}") (p, n ∷ xs) (p + 1, xs)) (sym c.1) (spells_one 125 p xs)), f (after_value (suc l) a (object no_members) k) (rw c.0 at h2))
      | inr c ↦ first_member l a k (p, x ∷ xs) v (name_begun l a no_members k p x xs v f (rw c.0 at h2))
    ])

byte_before_name : (l a : ℕ) (d : Members) (k : Stack) (p x : ℕ) (xs : List ℕ) (v : Placed) → Later p xs v → Onward (next (before_name l a d k) p x) p xs v → NameLeft l a d k (p, x ∷ xs) v
byte_before_name l a d k p x xs v f h =
    by_blank x
    (λ e. let r = f (before_name l a d k) (rw e at h) in (r.0, blanks_more x p xs r.0 e r.1, r.2))
    (λ e. ((p, x ∷ xs), no_blanks (p, x ∷ xs), name_begun l a d k p x xs v f (rw e at h)))

byte_after_name : (l a : ℕ) (d : Members) (n : ℕ) (s : List ℕ) (k : Stack) (p x : ℕ) (xs : List ℕ) (v : Placed) → Later p xs v
    → Onward (next (after_name l a d n s k) p x) p xs v → AfterName l a d n s k (p, x ∷ xs) v
byte_after_name l a d n s k p x xs v f h =
    by_blank x
    (λ e. let r = f (after_name l a d n s k) (rw e at h) in (r.0, r.1, blanks_more x p xs r.0 e r.2, r.3, r.4))
    (λ e. let h2 = rw e at h in elim (eqb_tells x 58) [
      | inl c ↦ ((p, x ∷ xs), (p + 1, xs), no_blanks (p, x ∷ xs), subst (λ (n : ℕ). Spells (codes ":") (p, n ∷ xs) (p + 1, xs)) (sym c.1) (spells_one 58 p xs), f (before_value l (in_object d a n s k)) (rw c.0 at h2))
      | inr c ↦ absurd (cc (rw c.0 at h2))
    ])

comma_in_array : (l at : ℕ) (j : Json) (d : Elements) (a : ℕ) (k : Stack) (p : ℕ) (xs : List ℕ) (v : Placed)
    → ValueLeft l (in_array (with_element d at j) a k) (p + 1, xs) v → Rest (in_array d a k) l at j (p, 44 ∷ xs) v
comma_in_array l at j d a k p xs v (o, b, (q, i, is, (c, g, js, b2, more, r))) = (
  (p, 44 ∷ xs),
  g,
  element o.0 i js,
  no_blanks (p, 44 ∷ xs),
  ((p + 1, xs), c, spells_one 44 p xs, (o, q, b, (refl, is), b2), more),
  subst (λ (e : Elements). Rest k (suc l) a (array e) g v) (joined_with d at j (element o.0 i js)) (same_rest r),
)
  where
    same_rest : Rest k (suc l) a (array (joined_elements (with_element d at j) (element o.0 i js))) g v → Rest k (suc l) a (array (joined_elements (with_element d at j) (element o.0 i js))) g v
    same_rest r = r

comma_in_object : (l at : ℕ) (j : Json) (d : Members) (a n : ℕ) (s : List ℕ) (k : Stack) (p : ℕ) (xs : List ℕ) (v : Placed)
    → NameLeft l a (with_member d n s at j) k (p + 1, xs) v → Rest (in_object d a n s k) l at j (p, 44 ∷ xs) v
comma_in_object l at j d a n s k p xs v (o, b, (q, t, is, (c, e, b2, colon, (u, b3, (w, i, is_value, (y, g, ms, b4, more, r)))))) = (
  (p, 44 ∷ xs),
  g,
  member o.0 t u.0 i ms,
  no_blanks (p, 44 ∷ xs),
  ((p + 1, xs), c, e, y, spells_one 44 p xs, (o, q, b, (refl, is), b2), colon, (u, w, b3, (refl, is_value), b4), more),
  subst (λ (e : Members). Rest k (suc l) a (object e) g v) (members_with d n s at j (member o.0 t u.0 i ms)) r,
)

ended : (l at : ℕ) (j : Json) (k : Stack) (p x : ℕ) (xs : List ℕ) (v : Placed) → Later p xs v → Onward (end_value l at j k x) p xs v → Rest k l at j (p, x ∷ xs) v
ended l at j top p x xs v f h = absurd (cc h)
ended l at j (in_array d a k) p x xs v f h =
    elim (eqb_tells x 44) [
      | inl c ↦ subst (λ (n : ℕ). Rest (in_array d a k) l at j (p, n ∷ xs) v) (sym c.1) (comma_in_array l at j d a k p xs v (f (before_value l (in_array (with_element d at j) a k)) (rw c.0 at h)))
      | inr c ↦ (let h2 = rw c.0 at h in elim (eqb_tells x 93) [
        | inl e ↦ ((p, x ∷ xs), (p + 1, xs), no_elements, no_blanks (p, x ∷ xs), subst (λ (n : ℕ). Spells (codes "]") (p, n ∷ xs) (p + 1, xs)) (sym e.1) (spells_one 93 p xs), f (after_value (suc l) a (array (with_element d at j)) k) (rw e.0 at h2))
        | inr e ↦ absurd (cc (rw e.0 at h2))
      ])
    ]
ended l at j (in_object d a n s k) p x xs v f h =
    elim (eqb_tells x 44) [
      | inl c ↦ subst (λ (m : ℕ). Rest (in_object d a n s k) l at j (p, m ∷ xs) v) (sym c.1) (comma_in_object l at j d a n s k p xs v (f (before_name l a (with_member d n s at j) k) (rw c.0 at h)))
      | inr c ↦ (let h2 = rw c.0 at h in elim (eqb_tells x 125) [
        | inl e ↦ ((p, x ∷ xs), (p + 1, xs), no_members, no_blanks (p, x ∷ xs), subst (λ (n : ℕ). Spells (codes "}") (p, n ∷ xs) (p + 1, xs)) (sym e.1) (spells_one 125 p xs), f (after_value (suc l) a (object (with_member d n s at j)) k) (rw e.0 at h2))
        | inr e ↦ absurd (cc (rw e.0 at h2))
      ])
    ]

byte_after_value : (l at : ℕ) (j : Json) (k : Stack) (p x : ℕ) (xs : List ℕ) (v : Placed) → Later p xs v → Onward (next_after l at j k x) p xs v → Rest k l at j (p, x ∷ xs) v
byte_after_value l at j k p x xs v f h =
    by_blank x
    (λ e. rest_more k l at j x p xs v e (f (after_value l at j k) (rw e at h)))
    (λ e. ended l at j k p x xs v f (rw e at h))

word_goes : (y : ℕ) (ys : List ℕ) (at : ℕ) (j : Json) (l : ℕ) (k : Stack) (p : ℕ) (xs : List ℕ) (v : Placed) → Left (word_left ys at j l k) (p + 1, xs) v → Left (in_word y ys at j l k) (p, y ∷ xs) v
word_goes y [] at j l k p xs v r = ((p + 1, xs), spells_one y p xs, r)
word_goes y (z ∷ ys) at j l k p xs v (g, s, r) = (g, spells_more y (z ∷ ys) p xs g s, r)

byte_in_word : (y : ℕ) (ys : List ℕ) (at : ℕ) (j : Json) (l : ℕ) (k : Stack) (p x : ℕ) (xs : List ℕ) (v : Placed) → Later p xs v
    → Onward (next (in_word y ys at j l k) p x) p xs v → Left (in_word y ys at j l k) (p, x ∷ xs) v
byte_in_word y ys at j l k p x xs v f h =
    elim (eqb_tells x y) [
      | inl e ↦ subst (λ (n : ℕ). Left (in_word y ys at j l k) (p, n ∷ xs) v) (sym e.1) (word_goes y ys at j l k p xs v (f (word_left ys at j l k) (rw e.0 at h)))
      | inr e ↦ absurd (cc (rw e.0 at h))
    ]

number_over : (b : Bool) (part : NumberPart) (d : List ℕ) (at l : ℕ) (k : Stack) (p x : ℕ) (xs : List ℕ) (v : Placed) → is_final part ≡ b → Later p xs v
    → Onward (if b then next_after l at (number d) k x else no Rattle.pb_json_text.specs.declared.fault.JsonCause.TheVariants.UnexpectedByte) p xs v
    → Left (in_number part d at l k) (p, x ∷ xs) v
number_over true part d at l k p x xs v e f h =
    ([], (p, x ∷ xs), (refl, omega arith), e, subst (λ (c : List ℕ). Rest k l at (number c) (p, x ∷ xs) v) (sym (append-nil d)) (byte_after_value l at (number d) k p x xs v f h))
number_over false part d at l k p x xs v e f h = absurd (cc h)

byte_in_number : (o : Option NumberPart) (part : NumberPart) (d : List ℕ) (at l : ℕ) (k : Stack) (p x : ℕ) (xs : List ℕ) (v : Placed) → number_next part x ≡ o → Later p xs v
    → Onward (number_goes o (if is_final part then next_after l at (number d) k x else no Rattle.pb_json_text.specs.declared.fault.JsonCause.TheVariants.UnexpectedByte) (d ++ x ∷ []) at l k) p xs v
    → Left (in_number part d at l k) (p, x ∷ xs) v
byte_in_number None part d at l k p x xs v e f h = number_over (is_final part) part d at l k p x xs v refl f h
byte_in_number (Some q) part d at l k p x xs v e f h =
    let r = f (in_number q (d ++ x ∷ []) at l k) h in (
      x ∷ r.0,
      r.1,
      spells_more x r.0 p xs r.1 r.2,
      ap (λ (o : Option NumberPart). then_ok o (λ q. number_ok q r.0)) e ∙ r.3,
      subst (λ (c : List ℕ). Rest k l at (number c) r.1 v) (append_assoc d (x ∷ []) r.0) r.4,
    )

named_left : (t : Target) (s : List ℕ) (at l : ℕ) (k : Stack) (h : Place) (v : Placed) → Left (named t s at l k) h v → NamedLeft t s at l k h v
named_left as_value s at l k h v r = r
named_left (as_name a d) s at l k h v r = r

string_onward : (n : StringNext) (part : StringPart) (s : List ℕ) (at : ℕ) (t : Target) (l : ℕ) (k : Stack) (p x : ℕ) (xs : List ℕ) (v : Placed)
    → string_next part x ≡ n → (is_text part && (x == 34)) ≡ false → Later p xs v → Onward (string_goes n s at t l k) p xs v → Left (in_string part s at t l k) (p, x ∷ xs) v
string_onward stops part s at t l k p x xs v e q f h = absurd (cc h)
string_onward (goes part2 c) part s at t l k p x xs v e q f h =
    let r = f (in_string part2 (s ++ c) at t l k) h in (
      x ∷ r.0,
      c ++ r.1,
      r.2,
      spells_more x (r.0 ++ 34 ∷ []) p xs r.2 r.3,
      rw (q, e) (rw r.4 refl),
      subst (λ (u : List ℕ). NamedLeft t u at l k r.2 v) (append_assoc s c r.1) r.5,
    )

closed : (part : StringPart) (x : ℕ) → (is_text part && (x == 34)) ≡ true → (is_text part ≡ true) × (x ≡ 34)
closed part x h = by_text (is_text part) refl h
  where
    by_text : (b : Bool) → is_text part ≡ b → (b && (x == 34)) ≡ true → (is_text part ≡ true) × (x ≡ 34)
    by_text true e h = (e, Rattle.std.proofs.lemmas.Bool.eqb-true x 34 h)
    by_text false e h = absurd (cc h)

byte_in_string : (b : Bool) (part : StringPart) (s : List ℕ) (at : ℕ) (t : Target) (l : ℕ) (k : Stack) (p x : ℕ) (xs : List ℕ) (v : Placed)
    → (is_text part && (x == 34)) ≡ b → Later p xs v → Onward (if b then go (named t s at l k) else string_goes (string_next part x) s at t l k) p xs v
    → Left (in_string part s at t l k) (p, x ∷ xs) v
byte_in_string true part s at t l k p x xs v e f h =
    let c = closed part x e in (
      [],
      [],
      (p + 1, xs),
      subst (λ (n : ℕ). Spells (34 ∷ []) (p, n ∷ xs) (p + 1, xs)) (sym c.1) (spells_one 34 p xs),
      rw c.0 refl,
      subst (λ (u : List ℕ). NamedLeft t u at l k (p + 1, xs) v) (sym (append-nil s)) (named_left t s at l k (p + 1, xs) v (f (named t s at l k) h)),
    )
byte_in_string false part s at t l k p x xs v e f h = string_onward (string_next part x) part s at t l k p x xs v refl e f h

one_byte : (m : Mode) (p x : ℕ) (xs : List ℕ) (v : Placed) → Later p xs v → Onward (next m p x) p xs v → Left m (p, x ∷ xs) v
one_byte (before_value l k) p x xs v f h = byte_before_value l k p x xs v f h
one_byte (in_brackets l a k) p x xs v f h = byte_in_brackets l a k p x xs v f h
one_byte (in_braces l a k) p x xs v f h = byte_in_braces l a k p x xs v f h
one_byte (before_name l a d k) p x xs v f h = byte_before_name l a d k p x xs v f h
one_byte (after_name l a d n s k) p x xs v f h = byte_after_name l a d n s k p x xs v f h
one_byte (after_value l at j k) p x xs v f h = byte_after_value l at j k p x xs v f h
one_byte (in_word y ys at j l k) p x xs v f h = byte_in_word y ys at j l k p x xs v f h
one_byte (in_number part d at l k) p x xs v f h = byte_in_number (number_next part x) part d at l k p x xs v refl f h
one_byte (in_string part s at t l k) p x xs v f h = byte_in_string (is_text part && (x == 34)) part s at t l k p x xs v refl f h

-- THE END

at_end : (k : Stack) (l at : ℕ) (j : Json) (p : ℕ) (v : Placed) → end_of p at j k ≡ done v.0 v.1 → Rest k l at j (p, []) v
at_end top l at j p v h = (p, no_blanks (p, []), cc h, cc h)
at_end (in_array d a k) l at j p v h = absurd (cc h)
at_end (in_object d a n s k) l at j p v h = absurd (cc h)

number_at_end : (b : Bool) (part : NumberPart) (d : List ℕ) (at l : ℕ) (k : Stack) (p : ℕ) (v : Placed) → is_final part ≡ b
    → (if b then end_of p at (number d) k else stop p Rattle.pb_json_text.specs.declared.fault.JsonCause.TheVariants.UnexpectedEnd) ≡ done v.0 v.1
    → Left (in_number part d at l k) (p, []) v
number_at_end true part d at l k p v e h =
    ([], (p, []), (refl, omega arith), e, subst (λ (c : List ℕ). Rest k l at (number c) (p, []) v) (sym (append-nil d)) (at_end k l at (number d) p v h))
number_at_end false part d at l k p v e h = absurd (cc h)

no_bytes : (m : Mode) (p : ℕ) (v : Placed) → finish m p ≡ done v.0 v.1 → Left m (p, []) v
no_bytes (before_value l k) p v h = absurd (cc h)
no_bytes (in_brackets l a k) p v h = absurd (cc h)
no_bytes (in_braces l a k) p v h = absurd (cc h)
no_bytes (before_name l a d k) p v h = absurd (cc h)
no_bytes (after_name l a d n s k) p v h = absurd (cc h)
no_bytes (after_value l at j k) p v h = at_end k l at j p v h
no_bytes (in_word y ys at j l k) p v h = absurd (cc h)
no_bytes (in_number part d at l k) p v h = number_at_end (is_final part) part d at l k p v refl h
no_bytes (in_string part s at t l k) p v h = absurd (cc h)

left : (b : List ℕ) (m : Mode) (p : ℕ) (v : Placed) → run m p b ≡ done v.0 v.1 → Left m (p, b) v
left [] m p v h = no_bytes m p v (sym (run_end m p) ∙ h)
left (x ∷ xs) m p v h = one_byte m p x xs v (λ n e. left xs n (p + 1) v e) (sym (run_byte m p x xs) ∙ h)

pub run_text : (l : ℕ) (v : Placed) (b : List ℕ) → run (before_value l top) 0 b ≡ done v.0 v.1 → IsText l v b
run_text l v b h = of_left (left b (before_value l top) 0 v h)
  where
    of_left : Left (before_value l top) (0, b) v → IsText l v b
    of_left (p, c, (q, j, is, (end, d, e, f))) = (end, (p, q, c, (e, subst (λ (i : Json). IsValue l i p q) (sym f) is), d))
