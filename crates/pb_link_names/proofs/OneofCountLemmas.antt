-- Counted members, and what the rules of oneofs make of them.
use Rattle.std.proofs.Common.{◌≡◌, ℕ, ℤ, pos, negsuc, ◌+◌, ◌<◌, ◌≤◌, List, [], ◌∷◌, ◌++◌, length, map, take, get_or, Bool, true, false, not, ◌&&◌, ◌||◌, ◌==◌, nat_lt, Option, Some, None, refl, sym, ap, ◌∙◌, subst, arith, rules}
use Rattle.std.specs.Prelude.{if◌then◌else◌}
use Rattle.std.specs.List.{list_any, enumerate_from}
use Rattle.pb_declarations.specs.Decls.{DeclaredField, MessageHead}
use Rattle.std.proofs.lemmas.Bool.{ltb-true, ltb-false, eqb-true, eqb-false}
use Rattle.std.proofs.lemmas.List.{length-set, get_or-set_same, get_or-set_other, get_or-replicate, length-replicate, map_more, length-map, length-take, get_or_default}
use Rattle.std.proofs.lemmas.List.Folds.{list_any-append}
use Rattle.std.specs.Prelude.{slice_set, replicate}
use Rattle.std.specs.List.{slice_index_or}
use Rattle.pb_link_names.specs.Declarations.{a_oneof, is_oneof_index, is_member_of, is_synthetic}
use Rattle.pb_link_names.specs.Marks.{marks_of}
use Rattle.pb_link_names.proofs.MarkLemmas.{mark_of}
use Rattle.pb_link_names.specs.MarkRules.{how_many, same_oneof, oneof_of_field_is_right, oneof_is_right}
use Rattle.pb_link_names.specs.Oneofs.{index_below, oneof_place, AreCounted, AreOneofsOf}
use Rattle.pb_link_names.specs.declared.marks.oneofs.Oneofs.{Oneofs}

one_if : Bool → ℕ
one_if b = if b then 1 else 0

pub how_many-le : (test : DeclaredField → Bool) (fs : List DeclaredField) → how_many test fs ≤ length fs
how_many-le test [] = omega arith
how_many-le test (f ∷ fs) = step (test f) (how_many-le test fs)
  where
    step : (b : Bool) → how_many test fs ≤ length fs → (if b then 1 else 0) + how_many test fs ≤ length (f ∷ fs)
    step true h = omega (arith, h)
    step false h = omega (arith, h)

pub how_many-append : (test : DeclaredField → Bool) (fs : List DeclaredField) (g : DeclaredField) → how_many test (fs ++ g ∷ []) ≡ how_many test fs + (if test g then 1 else 0)
how_many-append test [] g = step (if test g then 1 else 0)
  where
    step : (n : ℕ) → n + 0 ≡ 0 + n
    step n = omega arith
how_many-append test (f ∷ fs) g = ap (λ n. (if test f then 1 else 0) + n) (how_many-append test fs g) ∙ step (if test f then 1 else 0) (how_many test fs) (if test g then 1 else 0)
  where
    step : (a b c : ℕ) → a + (b + c) ≡ a + b + c
    step a b c = omega arith

pub how_many-same : (p q : DeclaredField → Bool) (fs : List DeclaredField) → ((f : DeclaredField) → p f ≡ q f) → how_many p fs ≡ how_many q fs
how_many-same p q [] same = refl
how_many-same p q (f ∷ fs) same = ap (λ n. (if p f then 1 else 0) + n) (how_many-same p q fs same) ∙ ap (λ b. (if b then 1 else 0) + how_many q fs) (same f)

pub how_many-none : (test : DeclaredField → Bool) (fs : List DeclaredField) → ((f : DeclaredField) → test f ≡ false) → how_many test fs ≡ 0
how_many-none test [] none = refl
how_many-none test (f ∷ fs) none = ap (λ b. (if b then 1 else 0) + how_many test fs) (none f) ∙ ap (λ n. 0 + n) (how_many-none test fs none)

-- some field passes exactly where one is counted
pub any-counted : (test : DeclaredField → Bool) (fs : List DeclaredField) → list_any test fs ≡ nat_lt 0 (how_many test fs)
any-counted test [] = refl
any-counted test (f ∷ fs) = step (test f) (any-counted test fs)
  where
    step : (b : Bool) → list_any test fs ≡ nat_lt 0 (how_many test fs) → (b || list_any test fs) ≡ nat_lt 0 ((if b then 1 else 0) + how_many test fs)
    step true h = one_more (how_many test fs)
      where
        one_more : (n : ℕ) → true ≡ nat_lt 0 (1 + n)
        one_more n = search rules
    step false h = h ∙ ap (nat_lt 0) (zero_more (how_many test fs))
      where
        zero_more : (n : ℕ) → n ≡ 0 + n
        zero_more n = omega arith

some_is : (i k : ℕ) → Some i ≡ Some k → i ≡ k
some_is i k h = cc

-- the oneof at the index is that of the field, and no other
pub at_place : (n : ℕ) (z : Option ℤ) (k : ℕ) → index_below n z ≡ Some k → (k < n) × ((o : ℕ) → is_oneof_index o z ≡ (k == o))
at_place n None k h = absurd cc
at_place n (Some (negsuc i)) k h = absurd cc
at_place n (Some (pos i)) k h = step (nat_lt i n) refl h
  where
    step : (b : Bool) → nat_lt i n ≡ b → (if b then Some i else None) ≡ Some k → (k < n) × ((o : ℕ) → (i == o) ≡ (k == o))
    step true less is = let same = some_is i k is in (let P : ℕ → Type 0 = λ m. m < n in subst P same (ltb-true i n less), λ o. ap (λ m. m == o) same)
    step false less is = absurd cc

differs : (i o : ℕ) → ((i ≡ o) → ⊥) → (i == o) ≡ false
differs i o h = step (i == o) refl
  where
    step : (b : Bool) → (i == o) ≡ b → (i == o) ≡ false
    step true is = absurd (h (eqb-true i o is))
    step false is = is

-- a field without a place is a member of none of this many oneofs
pub at_none : (n : ℕ) (z : Option ℤ) → index_below n z ≡ None → (o : ℕ) → o < n → is_oneof_index o z ≡ false
at_none n None h o less = refl
at_none n (Some (negsuc i)) h o less = refl
at_none n (Some (pos i)) h o less = step (nat_lt i n) refl h
  where
    step : (b : Bool) → nat_lt i n ≡ b → (if b then Some i else None) ≡ None → (i == o) ≡ false
    step true is none = absurd cc
    step false is none = let far : n ≤ i = ltb-false i n is in differs i o (λ e. omega (arith, far, less, e))

pub none_counted : (n : ℕ) → AreCounted [] n (replicate n 0) (replicate n false)
none_counted n = record {
  size = length-replicate n 0;
  marks_size = length-replicate n false;
  counted = λ o h. get_or-replicate n o 0 0 h;
  marked = λ o h. get_or-replicate n o false false h;
}

pub counted_same : (fs : List DeclaredField) (f : DeclaredField) (n : ℕ) (counts : List ℕ) (marks : List Bool) → oneof_place n f ≡ None → AreCounted fs n counts marks → AreCounted (fs ++ f ∷ []) n counts marks
counted_same fs f n counts marks none held = record {
  size = held.size;
  marks_size = held.marks_size;
  counted = λ o h. held.counted o h ∙ sym (how_many-append (is_member_of o) fs f ∙ ap (λ b. how_many (is_member_of o) fs + (if b then 1 else 0)) (at_none n f.oneof none o h) ∙ add_none (how_many (is_member_of o) fs));
  marked = λ o h. held.marked o h ∙ sym (list_any-append (λ g. g.is_optional && is_member_of o g) fs (f ∷ []) ∙ ap (λ b. list_any (λ g. g.is_optional && is_member_of o g) fs || ((f.is_optional && b) || false)) (at_none n f.oneof none o h) ∙ or_none (list_any (λ g. g.is_optional && is_member_of o g) fs) f.is_optional);
}
  where
    add_none : (m : ℕ) → m + 0 ≡ m
    add_none m = omega arith

    or_none : (b c : Bool) → (b || ((c && false) || false)) ≡ b
    or_none true c = refl
    or_none false true = refl
    or_none false false = refl

pub counted_more : (fs : List DeclaredField) (f : DeclaredField) (n k : ℕ) (counts now : List ℕ) (marks mark_now : List Bool) → oneof_place n f ≡ Some k → AreCounted fs n counts marks → now ≡ slice_set counts k (slice_index_or counts k 0 + 1) → mark_now ≡ slice_set marks k (slice_index_or marks k false || f.is_optional) → AreCounted (fs ++ f ∷ []) n now mark_now
counted_more fs f n k counts now marks mark_now some held counts_is marks_is = record {
  size = ap length counts_is ∙ length-set counts k (slice_index_or counts k 0 + 1) ∙ held.size;
  marks_size = ap length marks_is ∙ length-set marks k (slice_index_or marks k false || f.is_optional) ∙ held.marks_size;
  counted = λ o h. ap (λ l. slice_index_or l o 0) counts_is ∙ count_at o h (k == o) refl ∙ sym (how_many-append (is_member_of o) fs f ∙ ap (λ b. how_many (is_member_of o) fs + (if b then 1 else 0)) (place.1 o));
  marked = λ o h. ap (λ l. slice_index_or l o false) marks_is ∙ mark_at o h (k == o) refl ∙ sym (list_any-append (λ g. g.is_optional && is_member_of o g) fs (f ∷ []) ∙ ap (λ b. list_any (λ g. g.is_optional && is_member_of o g) fs || ((f.is_optional && b) || false)) (place.1 o));
}
  where
    place : (k < n) × ((o : ℕ) → is_oneof_index o f.oneof ≡ (k == o))
    place = at_place n f.oneof k some

    inside : k < length counts
    inside = let P : ℕ → Type 0 = λ m. k < m in subst P (sym held.size) place.0

    mark_inside : k < length marks
    mark_inside = let P : ℕ → Type 0 = λ m. k < m in subst P (sym held.marks_size) place.0

    count_at : (o : ℕ) → o < n → (b : Bool) → (k == o) ≡ b → slice_index_or (slice_set counts k (slice_index_or counts k 0 + 1)) o 0 ≡ how_many (is_member_of o) fs + (if k == o then 1 else 0)
    count_at o h true is =
        let same : k ≡ o = eqb-true k o is in
        ap (λ m. slice_index_or (slice_set counts k (slice_index_or counts k 0 + 1)) m 0) (sym same) ∙ get_or-set_same counts k (slice_index_or counts k 0 + 1) 0 inside ∙ ap (λ m. m + 1) (held.counted k place.0) ∙ ap (λ m. how_many (is_member_of m) fs + 1) same ∙ ap (λ c. how_many (is_member_of o) fs + (if c then 1 else 0)) (sym is)
    count_at o h false is =
        get_or-set_other counts k o (slice_index_or counts k 0 + 1) 0 (λ e. eqb-false k o is (sym e)) ∙ held.counted o h ∙ add_none (how_many (is_member_of o) fs) ∙ ap (λ c. how_many (is_member_of o) fs + (if c then 1 else 0)) (sym is)
      where
        add_none : (m : ℕ) → m ≡ m + 0
        add_none m = omega arith

    any_optional : ℕ → Bool
    any_optional o = list_any (λ g. g.is_optional && is_member_of o g) fs

    mark_at : (o : ℕ) → o < n → (b : Bool) → (k == o) ≡ b → slice_index_or (slice_set marks k (slice_index_or marks k false || f.is_optional)) o false ≡ (list_any (λ g. g.is_optional && is_member_of o g) fs || ((f.is_optional && (k == o)) || false))
    mark_at o h true is =
        let same : k ≡ o = eqb-true k o is in
        ap (λ m. slice_index_or (slice_set marks k (slice_index_or marks k false || f.is_optional)) m false) (sym same) ∙ get_or-set_same marks k (slice_index_or marks k false || f.is_optional) false mark_inside ∙ ap (λ b. b || f.is_optional) (held.marked k place.0) ∙ ap (λ m. list_any (λ g. g.is_optional && is_member_of m g) fs || f.is_optional) same
        ∙ ap (λ b. list_any (λ g. g.is_optional && is_member_of o g) fs || b) (plain f.is_optional) ∙ ap (λ c. list_any (λ g. g.is_optional && is_member_of o g) fs || ((f.is_optional && c) || false)) (sym is)
      where
        plain : (b : Bool) → b ≡ ((b && true) || false)
        plain true = refl
        plain false = refl
    mark_at o h false is =
        get_or-set_other marks k o (slice_index_or marks k false || f.is_optional) false (λ e. eqb-false k o is (sym e)) ∙ held.marked o h ∙ or_none (list_any (λ g. g.is_optional && is_member_of o g) fs) f.is_optional ∙ ap (λ c. list_any (λ g. g.is_optional && is_member_of o g) fs || ((f.is_optional && c) || false)) (sym is)
      where
        or_none : (b c : Bool) → b ≡ (b || ((c && false) || false))
        or_none true c = refl
        or_none false true = refl
        or_none false false = refl

-- what is counted fits: no more than the fields
pub count_fits : (fs : List DeclaredField) (n k : ℕ) (counts : List ℕ) (marks : List Bool) → AreCounted fs n counts marks → k < n → slice_index_or counts k 0 ≤ length fs
count_fits fs n k counts marks held h = let P : ℕ → Type 0 = λ m. m ≤ length fs in subst P (sym (held.counted k h)) (how_many-le (is_member_of k) fs)

-- the rule at a field without a oneof, and at one whose oneof is not there
pub right_without : (head : MessageHead) (f : DeclaredField) → f.oneof ≡ None → not f.is_optional ≡ oneof_of_field_is_right head f
right_without head f none = sym (rw none (rw (how_many-none (λ g. same_oneof None g.oneof) head.fields (λ g. refl)) (plain f.is_optional)))
  where
    plain : (b : Bool) → (true && (not b || (0 == 1))) ≡ not b
    plain true = refl
    plain false = refl

pub counted_next : {X : Type 0} (view : X → DeclaredField) (xs : List X) (i : ℕ) (x : X) (n k : ℕ) (counts now : List ℕ) (marks mark_now : List Bool) → i < length xs → x ≡ get_or xs i x → oneof_place n (view x) ≡ Some k → AreCounted (map view (take i xs)) n counts marks → now ≡ slice_set counts k (slice_index_or counts k 0 + 1) → mark_now ≡ slice_set marks k (slice_index_or marks k false || (view x).is_optional) → AreCounted (map view (take (i + 1) xs)) n now mark_now
counted_next view xs i x n k counts now marks mark_now h there some held counts_is marks_is =
    let P : List DeclaredField → Type 0 = λ l. AreCounted l n now mark_now in
    let more : map view (take (i + 1) xs) ≡ map view (take i xs) ++ view x ∷ [] = map_more view xs i x h ∙ ap (λ y. map view (take i xs) ++ view y ∷ []) (sym there) in
    subst P (sym more) (counted_more (map view (take i xs)) (view x) n k counts now marks mark_now some held counts_is marks_is)

pub counted_kept : {X : Type 0} (view : X → DeclaredField) (xs : List X) (i : ℕ) (x : X) (n : ℕ) (counts now : List ℕ) (marks mark_now : List Bool) → i < length xs → x ≡ get_or xs i x → oneof_place n (view x) ≡ None → AreCounted (map view (take i xs)) n counts marks → now ≡ counts → mark_now ≡ marks → AreCounted (map view (take (i + 1) xs)) n now mark_now
counted_kept view xs i x n counts now marks mark_now h there none held counts_is marks_is =
    let P : List DeclaredField → Type 0 = λ l. AreCounted l n now mark_now in
    let Q : List ℕ → Type 0 = λ l. AreCounted (map view (take i xs) ++ view x ∷ []) n l mark_now in
    let R : List Bool → Type 0 = λ l. AreCounted (map view (take i xs) ++ view x ∷ []) n counts l in
    let more : map view (take (i + 1) xs) ≡ map view (take i xs) ++ view x ∷ [] = map_more view xs i x h ∙ ap (λ y. map view (take i xs) ++ view y ∷ []) (sym there) in
    subst P (sym more) (subst Q (sym counts_is) (subst R (sym marks_is) (counted_same (map view (take i xs)) (view x) n counts marks none held)))

-- a count of a front of the fields is no more than the front
pub front_fits : {X : Type 0} (view : X → DeclaredField) (xs : List X) (i n k : ℕ) (counts : List ℕ) (marks : List Bool) → AreCounted (map view (take i xs)) n counts marks → k < n → slice_index_or counts k 0 ≤ i
front_fits view xs i n k counts marks held h = omega (arith, count_fits (map view (take i xs)) n k counts marks held h, length-map (take i xs) view, length-take i xs)

-- the rule at a oneof, by its count and its mark
pub oneof_right : (head : MessageHead) (counts : List ℕ) (marks : List Bool) (o : ℕ) (mark follows : Bool) → AreCounted head.fields (length head.oneofs) counts marks → o < length counts → mark ≡ slice_index_or marks o false → follows ≡ list_any (λ e. is_synthetic head e.0) (take o (enumerate_from 0 head.oneofs)) → (nat_lt 0 (slice_index_or counts o 0) && (mark || not follows)) ≡ oneof_is_right head o
oneof_right head counts marks o mark follows held h mark_is follows_is =
    let P : ℕ → Type 0 = λ n. o < n in
    let inside : o < length head.oneofs = subst P held.size h in
    ap (λ n. nat_lt 0 n && (mark || not follows)) (held.counted o inside)
    ∙ ap (λ b. b && (mark || not follows)) (sym (any-counted (is_member_of o) head.fields))
    ∙ ap (λ b. list_any (is_member_of o) head.fields && (b || not follows)) (mark_is ∙ held.marked o inside)
    ∙ ap (λ b. list_any (is_member_of o) head.fields && (is_synthetic head o || not b)) follows_is

pub oneof_marked : (head : MessageHead) (name : List ℕ) (counts : List ℕ) (marks : List Bool) (o : ℕ) (mark follows right : Bool) → AreCounted head.fields (length head.oneofs) counts marks → o < length counts → mark ≡ slice_index_or marks o mark → right ≡ (nat_lt 0 (slice_index_or counts o 0) && (slice_index_or marks o false || not follows)) → follows ≡ list_any (λ e. is_synthetic head e.0) (take o (enumerate_from 0 head.oneofs)) → mark_of (not mark) true true right true ≡ marks_of (a_oneof head o name)
oneof_marked head name counts marks o mark follows right held h mark_is right_is follows_is =
    let P : ℕ → Type 0 = λ n. o < n in
    let inside : o < length head.oneofs = subst P held.size h in
    let there : o < length marks = subst P (held.size ∙ sym held.marks_size) h in
    let named : not mark ≡ not (is_synthetic head o) = ap not (mark_is ∙ get_or_default marks o mark false there ∙ held.marked o inside) in
    let is_right : right ≡ oneof_is_right head o = right_is ∙ oneof_right head counts marks o (slice_index_or marks o false) follows held h refl follows_is in
    λ i. mark_of (named i) true true (is_right i) true

abbrev pub get_name : List (List ℕ) → ℕ → List ℕ
get_name names i = get_or names i []

-- an index of a count is one of a oneof, and the mark there says whether it is synthetic
pub mark_there : (head : MessageHead) (o : Oneofs) (i : ℕ) (mark : Bool) → AreOneofsOf head o → i < length o.members.items → mark ≡ slice_index_or o.are_synthetic.items i mark → (i < length head.oneofs) × (mark ≡ is_synthetic head i)
mark_there head o i mark held h mark_is =
    let P : ℕ → Type 0 = λ n. i < n in
    let inside : i < length head.oneofs = subst P held.size h in
    let there : i < length o.are_synthetic.items = subst P (held.size ∙ sym held.marks_size) h in
    (inside, mark_is ∙ get_or_default o.are_synthetic.items i mark false there ∙ held.marked i inside)
