-- Steps of the machine over values.
use Rattle.std.proofs.Common.{◌≡◌, ◌≢◌, ℕ, zero, suc, ◌+◌, ◌-◌, ◌<◌, ◌≤◌, List, [], ◌∷◌, ◌++◌, length, drop, get_or, false, Some, refl, sym, ap, ◌∙◌, arith, ◌⊎◌, inl, inr, ne_eqb}
use Rattle.std.proofs.lemmas.Bool.{le-leb}
use Rattle.std.proofs.lemmas.Bool.Decides.{eqb_tells}
use Rattle.std.proofs.lemmas.List.{drop_more}
use Rattle.pb_json_text.specs.declared.fault.JsonCause.TheVariants as cause
use Rattle.pb_json_text.specs.declared.fault.JsonFault.{JsonFault}
use Rattle.pb_json_text.specs.declared.number.NumberPart.{NumberPart}
use Rattle.pb_json_text.specs.declared.number.NumberPart.TheVariants.{Start, Minus, Zero, Whole}
use Rattle.pb_json_text.specs.Json.{Json, array, object, Elements, no_elements, element, Members, no_members, member, Placed}
use Rattle.pb_json_text.specs.Grammar.{is_blank}
use Rattle.pb_json_text.specs.View.{Named, elements_from, members_from}
use Rattle.pb_json_text.specs.Loops.Machine.{number_next, text, with_element, with_member, Stack, top, in_array, in_object, Target, as_value, as_name, named}
use Rattle.pb_json_text.specs.Loops.Machine.{Mode, before_value, in_brackets, in_braces, before_name, after_name, after_value, in_number, in_string}
use Rattle.pb_json_text.specs.Loops.Machine.{Next, go, Outcome, done, stop, begin, begin_name, next, finish, onward, run}
use Rattle.pb_json_text.specs.Loops.States.{Skips, IsStop, run_begin, run_name}
use Rattle.pb_json_text.proofs.Forward.{run_byte, skips_value, skips_name, skips_after_name, skips_after}
use Rattle.pb_json_text.proofs.Steps.{go_at, no_at}

-- a fault of one run is that of an equal one
pub stop_as : (e : JsonFault) (o p : Outcome) → o ≡ p → IsStop e p → IsStop e o
stop_as e o p same (inl h) = inl h
stop_as e o p same (inr h) = inr (same ∙ h)

-- THE FIRST BYTE OF A VALUE

pub begin_go : (b : List ℕ) (at l : ℕ) (k : Stack) (n : Mode) → at < length b → begin l k at (get_or b at 0) ≡ go n → run_begin l k at (drop at b) ≡ run n (at + 1) (drop (at + 1) b)
begin_go b at l k n lt e = rw (drop_more b at 0 lt) (ap (λ (m : Next). onward m at (λ n. run n (at + 1) (drop (at + 1) b))) e)

pub string_begins : (b : List ℕ) (at l : ℕ) (k : Stack) → at < length b → get_or b at 0 ≡ 34 → run_begin l k at (drop at b) ≡ run (in_string text [] at as_value l k) (at + 1) (drop (at + 1) b)
string_begins b at l k lt e = begin_go b at l k (in_string text [] at as_value l k) lt (rw e refl)

pub array_begins : (b : List ℕ) (at l : ℕ) (k : Stack) → at < length b → get_or b at 0 ≡ 91 → 0 < l → run_begin l k at (drop at b) ≡ run (in_brackets (l - 1) at k) (at + 1) (drop (at + 1) b)
array_begins b at zero k lt e some = absurd (omega arith)
array_begins b at (suc m) k lt e some = begin_go b at (suc m) k (in_brackets (suc m - 1) at k) lt (rw e (ap (λ (n : ℕ). go (in_brackets n at k)) (less m)))
  where
    less : (m : ℕ) → m ≡ suc m - 1
    less m = omega arith

pub object_begins : (b : List ℕ) (at l : ℕ) (k : Stack) → at < length b → get_or b at 0 ≡ 123 → 0 < l → run_begin l k at (drop at b) ≡ run (in_braces (l - 1) at k) (at + 1) (drop (at + 1) b)
object_begins b at zero k lt e some = absurd (omega arith)
object_begins b at (suc m) k lt e some = begin_go b at (suc m) k (in_braces (suc m - 1) at k) lt (rw e (ap (λ (n : ℕ). go (in_braces n at k)) (less m)))
  where
    less : (m : ℕ) → m ≡ suc m - 1
    less m = omega arith

number_part : (x : ℕ) → (x ≡ 45) ⊎ ((48 ≤ x) × (x ≤ 57)) → (part : NumberPart) × (number_next Start x ≡ Some part)
number_part x (inl e) = (Minus, rw e refl)
number_part x (inr (a, b)) =
    elim (eqb_tells x 48) [
      | inl z ↦ (Zero, rw z.1 refl)
      | inr z ↦ (Whole, rw (ne_eqb x 45 (λ e. omega arith)) (rw z.0 (rw (le-leb 48 x a) (rw (le-leb x 57 b) refl))))
    ]

pub number_begins : (b : List ℕ) (at l : ℕ) (k : Stack) → at < length b → (get_or b at 0 ≡ 45) ⊎ ((48 ≤ get_or b at 0) × (get_or b at 0 ≤ 57))
    → run_begin l k at (drop at b) ≡ run (in_number Start [] at l k) at (drop at b)
number_begins b at l k lt d =
    let r = number_part (get_or b at 0) d in
    begin_go b at l k (in_number r.0 (get_or b at 0 ∷ []) at l k) lt (rw r.1 refl)
    ∙ sym (go_at b at (in_number Start [] at l k) (in_number r.0 (get_or b at 0 ∷ []) at l k) lt (rw r.1 refl))

-- BEFORE AND AFTER VALUES

pub value_at : (b : List ℕ) (at l : ℕ) (k : Stack) → at < length b → is_blank (get_or b at 0) ≡ false → run (before_value l k) at (drop at b) ≡ run_begin l k at (drop at b)
value_at b at l k lt e = rw (drop_more b at 0 lt) (run_byte (before_value l k) at (get_or b at 0) (drop (at + 1) b) ∙ rw e refl)

pub first_at : (b : List ℕ) (at l a : ℕ) (k : Stack) → at < length b → is_blank (get_or b at 0) ≡ false → get_or b at 0 ≢ 93 → run (in_brackets l a k) at (drop at b) ≡ run_begin l (in_array no_elements a k) at (drop at b)
first_at b at l a k lt e n = rw (drop_more b at 0 lt) (run_byte (in_brackets l a k) at (get_or b at 0) (drop (at + 1) b) ∙ rw (e, ne_eqb (get_or b at 0) 93 n) refl)

pub name_at : (b : List ℕ) (at l a : ℕ) (d : Members) (k : Stack) → at < length b → is_blank (get_or b at 0) ≡ false → run (before_name l a d k) at (drop at b) ≡ run_name l a d k at (drop at b)
name_at b at l a d k lt e = rw (drop_more b at 0 lt) (run_byte (before_name l a d k) at (get_or b at 0) (drop (at + 1) b) ∙ rw e refl)

pub first_name_at : (b : List ℕ) (at l a : ℕ) (k : Stack) → at < length b → is_blank (get_or b at 0) ≡ false → get_or b at 0 ≢ 125 → run (in_braces l a k) at (drop at b) ≡ run_name l a no_members k at (drop at b)
first_name_at b at l a k lt e n = rw (drop_more b at 0 lt) (run_byte (in_braces l a k) at (get_or b at 0) (drop (at + 1) b) ∙ rw (e, ne_eqb (get_or b at 0) 125 n) refl)

-- one byte of a state, by what it is
pub byte_at : (b : List ℕ) (at x : ℕ) (m n : Mode) → at < length b → get_or b at 0 ≡ x → next m at x ≡ go n → run m at (drop at b) ≡ run n (at + 1) (drop (at + 1) b)
byte_at b at x m n lt e h = go_at b at m n lt (ap (λ (y : ℕ). next m at y) e ∙ h)

pub after_element_stops : (b : List ℕ) (at l i : ℕ) (j : Json) (d : Elements) (a : ℕ) (k : Stack) → at < length b → is_blank (get_or b at 0) ≡ false → get_or b at 0 ≢ 44 → get_or b at 0 ≢ 93
    → run (after_value l i j (in_array d a k)) at (drop at b) ≡ stop at cause.UnexpectedByte
after_element_stops b at l i j d a k lt e c n = no_at b at (after_value l i j (in_array d a k)) cause.UnexpectedByte lt (rw (e, ne_eqb (get_or b at 0) 44 c, ne_eqb (get_or b at 0) 93 n) refl)

pub after_member_stops : (b : List ℕ) (at l i : ℕ) (j : Json) (d : Members) (a n : ℕ) (s : List ℕ) (k : Stack) → at < length b → is_blank (get_or b at 0) ≡ false → get_or b at 0 ≢ 44 → get_or b at 0 ≢ 125
    → run (after_value l i j (in_object d a n s k)) at (drop at b) ≡ stop at cause.UnexpectedByte
after_member_stops b at l i j d a n s k lt e c o = no_at b at (after_value l i j (in_object d a n s k)) cause.UnexpectedByte lt (rw (e, ne_eqb (get_or b at 0) 44 c, ne_eqb (get_or b at 0) 125 o) refl)

pub colon_wanted : (b : List ℕ) (at l a : ℕ) (d : Members) (n : ℕ) (s : List ℕ) (k : Stack) → at < length b → is_blank (get_or b at 0) ≡ false → get_or b at 0 ≢ 58
    → run (after_name l a d n s k) at (drop at b) ≡ stop at cause.UnexpectedByte
colon_wanted b at l a d n s k lt e c = no_at b at (after_name l a d n s k) cause.UnexpectedByte lt (rw (e, ne_eqb (get_or b at 0) 58 c) refl)

pub name_begins : (b : List ℕ) (at l a : ℕ) (d : Members) (k : Stack) → at < length b → get_or b at 0 ≡ 34 → run_name l a d k at (drop at b) ≡ run (in_string text [] at (as_name a d) l k) (at + 1) (drop (at + 1) b)
name_begins b at l a d k lt e =
    rw (drop_more b at 0 lt) (ap (λ (m : Next). onward m at (λ n. run n (at + 1) (drop (at + 1) b))) (begun (get_or b at 0) e))
  where
    begun : (x : ℕ) → x ≡ 34 → begin_name l a d k at x ≡ go (in_string text [] at (as_name a d) l k)
    begun x e = rw e refl

pub top_stops : (b : List ℕ) (at l i : ℕ) (j : Json) → at < length b → is_blank (get_or b at 0) ≡ false → run (after_value l i j top) at (drop at b) ≡ stop at cause.UnexpectedByte
top_stops b at l i j lt e = no_at b at (after_value l i j top) cause.UnexpectedByte lt (rw e refl)

-- ONE MORE

pub elements_push : (vs : List Placed) (at : ℕ) (j : Json) → elements_from (vs ++ (at, j) ∷ []) ≡ with_element (elements_from vs) at j
elements_push [] at j = refl
elements_push (v ∷ vs) at j = ap (λ (js : Elements). element v.0 v.1 js) (elements_push vs at j)

pub members_push : (ms : List Named) (m : Named) → members_from (ms ++ m ∷ []) ≡ with_member (members_from ms) m.0 m.1 m.2.0 m.2.1
members_push [] m = refl
members_push (n ∷ ms) m = ap (λ (r : Members). member n.0 n.1 n.2.0 n.2.1 r) (members_push ms m)

-- ELEMENTS

-- how the blanks from one place to another are passed
abbrev pub Passes : List ℕ → ℕ → ℕ → Type 0
Passes b from to = (m : Mode) → Skips m → run m from (drop from b) ≡ run m to (drop to b)

-- a value from one place to another, whatever holds it
abbrev pub Reads : List ℕ → ℕ → ℕ → Json → ℕ → Type 0
Reads b l at j end = (k : Stack) → run_begin l k at (drop at b) ≡ run (after_value l at j k) end (drop end b)

-- the elements before this place are read
abbrev pub Items : List ℕ → ℕ → (ℕ → Stack → Outcome) → Elements → ℕ → Type 0
Items b l whole es at = (a : ℕ) (k : Stack) → whole a k ≡ run_begin l (in_array es a k) at (drop at b)

element_to : (b : List ℕ) (l at end place : ℕ) (j : Json) (es : Elements) (whole : ℕ → Stack → Outcome) → Items b l whole es at → Reads b l at j end → Passes b end place
    → (a : ℕ) (k : Stack) → whole a k ≡ run (after_value l at j (in_array es a k)) place (drop place b)
element_to b l at end place j es whole so_far value blanks a k =
    so_far a k ∙ value (in_array es a k) ∙ blanks (after_value l at j (in_array es a k)) (skips_after l at j (in_array es a k))

pub element_more : (b : List ℕ) (l at end place after : ℕ) (j : Json) (es new : Elements) (whole : ℕ → Stack → Outcome) → Items b l whole es at → Reads b l at j end → Passes b end place
    → place < length b → get_or b place 0 ≡ 44 → Passes b (place + 1) after → after < length b → is_blank (get_or b after 0) ≡ false → new ≡ with_element es at j → Items b l whole new after
element_more b l at end place after j es new whole so_far value blanks lt comma blanks2 lt2 e n a k =
    element_to b l at end place j es whole so_far value blanks a k
    ∙ byte_at b place 44 (after_value l at j (in_array es a k)) (before_value l (in_array (with_element es at j) a k)) lt comma refl
    ∙ blanks2 (before_value l (in_array (with_element es at j) a k)) (skips_value l (in_array (with_element es at j) a k))
    ∙ value_at b after l (in_array (with_element es at j) a k) lt2 e
    ∙ ap (λ (d : Elements). run_begin l (in_array d a k) after (drop after b)) (sym n)

pub element_last : (b : List ℕ) (l at end place : ℕ) (j : Json) (es new : Elements) (whole : ℕ → Stack → Outcome) → Items b l whole es at → Reads b l at j end → Passes b end place
    → place < length b → get_or b place 0 ≡ 93 → new ≡ with_element es at j → (a : ℕ) (k : Stack) → whole a k ≡ run (after_value (suc l) a (array new) k) (place + 1) (drop (place + 1) b)
element_last b l at end place j es new whole so_far value blanks lt close n a k =
    element_to b l at end place j es whole so_far value blanks a k
    ∙ byte_at b place 93 (after_value l at j (in_array es a k)) (after_value (suc l) a (array (with_element es at j)) k) lt close refl
    ∙ ap (λ (d : Elements). run (after_value (suc l) a (array d) k) (place + 1) (drop (place + 1) b)) (sym n)

pub element_wrong : (b : List ℕ) (l at end place : ℕ) (j : Json) (es : Elements) (whole : ℕ → Stack → Outcome) → Items b l whole es at → Reads b l at j end → Passes b end place
    → place < length b → is_blank (get_or b place 0) ≡ false → get_or b place 0 ≢ 44 → get_or b place 0 ≢ 93 → (a : ℕ) (k : Stack) → whole a k ≡ stop place cause.UnexpectedByte
element_wrong b l at end place j es whole so_far value blanks lt e c n a k =
    element_to b l at end place j es whole so_far value blanks a k ∙ after_element_stops b place l at j es a k lt e c n

-- the bytes end after a comma
pub comma_cut : (b : List ℕ) (l at end place : ℕ) (j : Json) (es : Elements) (whole : ℕ → Stack → Outcome) (e : JsonFault) → Items b l whole es at → Reads b l at j end → Passes b end place
    → place < length b → get_or b place 0 ≡ 44 → ((m : Mode) → Skips m → run m (place + 1) (drop (place + 1) b) ≡ finish m e.byte) → e.cause ≡ cause.UnexpectedEnd
    → (a : ℕ) (k : Stack) → IsStop e (whole a k)
comma_cut b l at end place j es whole e so_far value blanks lt comma cut c a k =
    inr (element_to b l at end place j es whole so_far value blanks a k
    ∙ byte_at b place 44 (after_value l at j (in_array es a k)) (before_value l (in_array (with_element es at j) a k)) lt comma refl
    ∙ cut (before_value l (in_array (with_element es at j) a k)) (skips_value l (in_array (with_element es at j) a k)) ∙ ap (stop e.byte) (sym c))

-- MEMBERS

-- a member from one place to another
abbrev pub ReadsMember : List ℕ → ℕ → ℕ → List ℕ → ℕ → Json → ℕ → Type 0
ReadsMember b l at s i j end = (a : ℕ) (ms : Members) (k : Stack) → run_name l a ms k at (drop at b) ≡ run (after_value l i j (in_object ms a at s k)) end (drop end b)

abbrev pub MemberItems : List ℕ → ℕ → (ℕ → Stack → Outcome) → Members → ℕ → Type 0
MemberItems b l whole ms at = (a : ℕ) (k : Stack) → whole a k ≡ run_name l a ms k at (drop at b)

member_to : (b : List ℕ) (l at : ℕ) (s : List ℕ) (i end place : ℕ) (j : Json) (ms : Members) (whole : ℕ → Stack → Outcome) → MemberItems b l whole ms at → ReadsMember b l at s i j end → Passes b end place
    → (a : ℕ) (k : Stack) → whole a k ≡ run (after_value l i j (in_object ms a at s k)) place (drop place b)
member_to b l at s i end place j ms whole so_far value blanks a k =
    so_far a k ∙ value a ms k ∙ blanks (after_value l i j (in_object ms a at s k)) (skips_after l i j (in_object ms a at s k))

pub member_more : (b : List ℕ) (l at : ℕ) (s : List ℕ) (i end place after : ℕ) (j : Json) (ms new : Members) (whole : ℕ → Stack → Outcome) → MemberItems b l whole ms at → ReadsMember b l at s i j end → Passes b end place
    → place < length b → get_or b place 0 ≡ 44 → Passes b (place + 1) after → after < length b → is_blank (get_or b after 0) ≡ false → new ≡ with_member ms at s i j → MemberItems b l whole new after
member_more b l at s i end place after j ms new whole so_far value blanks lt comma blanks2 lt2 e n a k =
    member_to b l at s i end place j ms whole so_far value blanks a k
    ∙ byte_at b place 44 (after_value l i j (in_object ms a at s k)) (before_name l a (with_member ms at s i j) k) lt comma refl
    ∙ blanks2 (before_name l a (with_member ms at s i j) k) (skips_name l a (with_member ms at s i j) k)
    ∙ name_at b after l a (with_member ms at s i j) k lt2 e
    ∙ ap (λ (d : Members). run_name l a d k after (drop after b)) (sym n)

pub member_last : (b : List ℕ) (l at : ℕ) (s : List ℕ) (i end place : ℕ) (j : Json) (ms new : Members) (whole : ℕ → Stack → Outcome) → MemberItems b l whole ms at → ReadsMember b l at s i j end → Passes b end place
    → place < length b → get_or b place 0 ≡ 125 → new ≡ with_member ms at s i j → (a : ℕ) (k : Stack) → whole a k ≡ run (after_value (suc l) a (object new) k) (place + 1) (drop (place + 1) b)
member_last b l at s i end place j ms new whole so_far value blanks lt close n a k =
    member_to b l at s i end place j ms whole so_far value blanks a k
    ∙ byte_at b place 125 (after_value l i j (in_object ms a at s k)) (after_value (suc l) a (object (with_member ms at s i j)) k) lt close refl
    ∙ ap (λ (d : Members). run (after_value (suc l) a (object d) k) (place + 1) (drop (place + 1) b)) (sym n)

pub member_wrong : (b : List ℕ) (l at : ℕ) (s : List ℕ) (i end place : ℕ) (j : Json) (ms : Members) (whole : ℕ → Stack → Outcome) → MemberItems b l whole ms at → ReadsMember b l at s i j end → Passes b end place
    → place < length b → is_blank (get_or b place 0) ≡ false → get_or b place 0 ≢ 44 → get_or b place 0 ≢ 125 → (a : ℕ) (k : Stack) → whole a k ≡ stop place cause.UnexpectedByte
member_wrong b l at s i end place j ms whole so_far value blanks lt e c n a k =
    member_to b l at s i end place j ms whole so_far value blanks a k ∙ after_member_stops b place l i j ms a at s k lt e c n

pub name_cut : (b : List ℕ) (l at : ℕ) (s : List ℕ) (i end place : ℕ) (j : Json) (ms : Members) (whole : ℕ → Stack → Outcome) (e : JsonFault) → MemberItems b l whole ms at → ReadsMember b l at s i j end → Passes b end place
    → place < length b → get_or b place 0 ≡ 44 → ((m : Mode) → Skips m → run m (place + 1) (drop (place + 1) b) ≡ finish m e.byte) → e.cause ≡ cause.UnexpectedEnd
    → (a : ℕ) (k : Stack) → IsStop e (whole a k)
name_cut b l at s i end place j ms whole e so_far value blanks lt comma cut c a k =
    inr (member_to b l at s i end place j ms whole so_far value blanks a k
    ∙ byte_at b place 44 (after_value l i j (in_object ms a at s k)) (before_name l a (with_member ms at s i j) k) lt comma refl
    ∙ cut (before_name l a (with_member ms at s i j) k) (skips_name l a (with_member ms at s i j) k) ∙ ap (stop e.byte) (sym c))

-- ONE MEMBER

-- the name, and the blanks after it
abbrev pub ReadsName : List ℕ → ℕ → List ℕ → ℕ → Type 0
ReadsName b at s end = (i : ℕ) (t : Target) (l : ℕ) (k : Stack) → run (in_string text [] i t l k) (at + 1) (drop (at + 1) b) ≡ run (named t s i l k) end (drop end b)

pub name_to : (b : List ℕ) (l at : ℕ) (s : List ℕ) (end colon : ℕ) → at < length b → get_or b at 0 ≡ 34 → ReadsName b at s end → Passes b end colon
    → (a : ℕ) (ms : Members) (k : Stack) → run_name l a ms k at (drop at b) ≡ run (after_name l a ms at s k) colon (drop colon b)
name_to b l at s end colon lt quote name blanks a ms k =
    name_begins b at l a ms k lt quote ∙ name at (as_name a ms) l k ∙ blanks (after_name l a ms at s k) (skips_after_name l a ms at s k)

pub colon_to : (b : List ℕ) (l at : ℕ) (s : List ℕ) (end colon i : ℕ) → at < length b → get_or b at 0 ≡ 34 → ReadsName b at s end → Passes b end colon → colon < length b → get_or b colon 0 ≡ 58
    → Passes b (colon + 1) i → i < length b → is_blank (get_or b i 0) ≡ false
    → (a : ℕ) (ms : Members) (k : Stack) → run_name l a ms k at (drop at b) ≡ run_begin l (in_object ms a at s k) i (drop i b)
colon_to b l at s end colon i lt quote name blanks lt2 e blanks2 lt3 n a ms k =
    name_to b l at s end colon lt quote name blanks a ms k
    ∙ byte_at b colon 58 (after_name l a ms at s k) (before_value l (in_object ms a at s k)) lt2 e refl
    ∙ blanks2 (before_value l (in_object ms a at s k)) (skips_value l (in_object ms a at s k)) ∙ value_at b i l (in_object ms a at s k) lt3 n

pub colon_cut : (b : List ℕ) (l at : ℕ) (s : List ℕ) (end colon : ℕ) (e : JsonFault) → at < length b → get_or b at 0 ≡ 34 → ReadsName b at s end → Passes b end colon → colon < length b → get_or b colon 0 ≡ 58
    → ((m : Mode) → Skips m → run m (colon + 1) (drop (colon + 1) b) ≡ finish m e.byte) → e.cause ≡ cause.UnexpectedEnd → (a : ℕ) (ms : Members) (k : Stack) → IsStop e (run_name l a ms k at (drop at b))
colon_cut b l at s end colon e lt quote name blanks lt2 c cut d a ms k =
    inr (name_to b l at s end colon lt quote name blanks a ms k
    ∙ byte_at b colon 58 (after_name l a ms at s k) (before_value l (in_object ms a at s k)) lt2 c refl
    ∙ cut (before_value l (in_object ms a at s k)) (skips_value l (in_object ms a at s k)) ∙ ap (stop e.byte) (sym d))

-- A TEXT

pub text_read : (b : List ℕ) (l at end e : ℕ) (j : Json) → Passes b 0 at → at < length b → is_blank (get_or b at 0) ≡ false → Reads b l at j end
    → ((m : Mode) → Skips m → run m end (drop end b) ≡ finish m e) → run (before_value l top) 0 b ≡ done at j
text_read b l at end e j blanks lt n value cut =
    blanks (before_value l top) (skips_value l top) ∙ value_at b at l top lt n ∙ value top ∙ cut (after_value l at j top) (skips_after l at j top)

pub text_goes_on : (b : List ℕ) (l at end more : ℕ) (j : Json) → Passes b 0 at → at < length b → is_blank (get_or b at 0) ≡ false → Reads b l at j end → Passes b end more → more < length b
    → is_blank (get_or b more 0) ≡ false → run (before_value l top) 0 b ≡ stop more cause.UnexpectedByte
text_goes_on b l at end more j blanks lt n value blanks2 lt2 n2 =
    blanks (before_value l top) (skips_value l top) ∙ value_at b at l top lt n ∙ value top ∙ blanks2 (after_value l at j top) (skips_after l at j top) ∙ top_stops b more l at j lt2 n2

pub text_fault : (b : List ℕ) (l at : ℕ) (e : JsonFault) → Passes b 0 at → at < length b → is_blank (get_or b at 0) ≡ false → ((k : Stack) → IsStop e (run_begin l k at (drop at b)))
    → IsStop e (run (before_value l top) 0 b)
text_fault b l at e blanks lt n value =
    stop_as e (run (before_value l top) 0 b) (run_begin l top at (drop at b)) (blanks (before_value l top) (skips_value l top) ∙ value_at b at l top lt n) (value top)
