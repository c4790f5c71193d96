-- Steps of the loops that make declarations of types.
use Rattle.std.proofs.Common.{◌≡◌, ◌≢◌, ℕ, ℤ, pos, zero, suc, ◌+◌, ◌<◌, ◌≤◌, ◌⊎◌, inl, inr, List, [], ◌∷◌, ◌++◌, Bool, true, false, ◌||◌, ◌==◌, map, length, take, drop, get_or, refl, sym, ap, ◌∙◌, subst, arith, Option, Some, None, option_map, add-zero, reverse}
use Rattle.std.specs.Prelude.{slice_get, slice_set, filter_map, if◌then◌else◌, unwrap_or, string_bytes}
use Rattle.std.specs.List.{list_any, enumerate_from, cons_option}
use Rattle.std.specs.Ordering.{int_eq}
use Rattle.std.proofs.lemmas.Bool.{cases_eq}
use Rattle.std.proofs.lemmas.Bool.Decides.{Decides-eqb}
use Rattle.std.proofs.lemmas.Option.{none-some}
use Rattle.std.proofs.lemmas.List.{take_more, drop_more, map-append, append_assoc, append-nil}
use Rattle.std.proofs.lemmas.Grind.{reverse_onto}
use Rattle.std.proofs.lemmas.List.Elements.{filter_map-append}
use Rattle.pb_schema.specs.declared.types.Kind.{Kind}
use Rattle.pb_schema.specs.declared.types.Shape.{Shape}
use Rattle.pb_schema.specs.declared.types.Shape.TheVariants as shape
use Rattle.pb_schema.specs.declared.types.FileInfo.{FileInfo}
use Rattle.pb_schema.specs.Names.{name_at}
use Rattle.pb_schema.specs.View.{file_view}
use Rattle.pb_schema.specs.Types.{FieldView, FileView, Types}
use Rattle.pb_declarations.specs.Decls.{DeclaredField, DeclaredMessage}
use Rattle.pb_link.specs.declared.declaring.nesting.Inside.{Inside}
use Rattle.pb_link.specs.ToDecls.{shares_numbers, declared_field, declared_fields, is_optional_view, entry_of_field, entry_message}
use Rattle.pb_link.specs.Nested.{Insides, inside_view, ChangesAt}

some_same : {A : Type 0} (a b : A) → Some a ≡ Some b → a ≡ b
some_same a b h = cc

pub eq_true : (a b : ℕ) → a ≡ b → (a == b) ≡ true
eq_true a b e = (Decides-eqb a b).1 e

pub eq_false : (a b : ℕ) → a ≢ b → (a == b) ≡ false
eq_false a b ne = by (a == b) (Decides-eqb a b).0
  where
    by : (t : Bool) → (t ≡ true → a ≡ b) → t ≡ false
    by true is = absurd (ne (is refl))
    by false is = refl

-- NUMBERS OF VALUES

abbrev has_number : ℤ → List (List ℕ × ℤ) → Bool
has_number z vs = list_any (λ u. int_eq u.1 z) vs

any_push : {X : Type 0} (t : X → Bool) (xs : List X) (x : X) → list_any t (xs ++ x ∷ []) ≡ (list_any t xs || t x)
any_push t [] x = or_false (t x)
  where
    or_false : (b : Bool) → (b || false) ≡ b
    or_false true = refl
    or_false false = refl
any_push t (y ∷ xs) x = ap (λ b. t y || b) (any_push t xs x) ∙ or_assoc (t y) (list_any t xs) (t x)
  where
    or_assoc : (a b c : Bool) → (a || (b || c)) ≡ ((a || b) || c)
    or_assoc true b c = refl
    or_assoc false b c = refl

shares_push : (xs : List (List ℕ × ℤ)) (x : List ℕ × ℤ) → shares_numbers (xs ++ x ∷ []) ≡ (has_number x.1 xs || shares_numbers xs)
shares_push [] x = refl
shares_push (y ∷ xs) x =
    ap (λ b. if b then true else shares_numbers (xs ++ x ∷ [])) (any_push (λ u. int_eq y.1 u.1) xs x)
    ∙ ap (λ b. if (list_any (λ u. int_eq y.1 u.1) xs || int_eq y.1 x.1) then true else b) (shares_push xs x)
    ∙ cases (list_any (λ u. int_eq y.1 u.1) xs) (int_eq y.1 x.1) (has_number x.1 xs) (shares_numbers xs)
  where
    cases : (a b c d : Bool) → (if (a || b) then true else (c || d)) ≡ ((b || c) || (if a then true else d))
    cases true true c d = refl
    cases true false true d = refl
    cases true false false d = refl
    cases false true c d = refl
    cases false false c d = refl

false_true : ◌≡◌ {A = Bool} false true → ⊥
false_true e = cc

any_front : {X : Type 0} (t : X → Bool) (us vs : List X) → list_any t us ≡ true → list_any t (us ++ vs) ≡ true
any_front t [] vs e = absurd (false_true e)
any_front t (u ∷ us) vs e = step (t u) e (any_front t us vs)
  where
    step : (b : Bool) → (b || list_any t us) ≡ true → (list_any t us ≡ true → list_any t (us ++ vs) ≡ true) → (b || list_any t (us ++ vs)) ≡ true
    step true e more = refl
    step false e more = more e

shares_front : (xs ys : List (List ℕ × ℤ)) → shares_numbers xs ≡ true → shares_numbers (xs ++ ys) ≡ true
shares_front [] ys h = absurd (false_true h)
shares_front (x ∷ xs) ys h = by (list_any (λ u. int_eq x.1 u.1) xs) (list_any (λ u. int_eq x.1 u.1) (xs ++ ys)) (any_front (λ u. int_eq x.1 u.1) xs ys) h (shares_front xs ys)
  where
    by : (a b : Bool) → (a ≡ true → b ≡ true) → (if a then true else shares_numbers xs) ≡ true → (shares_numbers xs ≡ true → shares_numbers (xs ++ ys) ≡ true) → (if b then true else shares_numbers (xs ++ ys)) ≡ true
    by true b give h more = ap (λ t. if t then true else shares_numbers (xs ++ ys)) (give refl)
    by false true give h more = refl
    by false false give h more = more h

-- so far no two values share a number, and the test tells the numbers so far
pub record NoneShared (values : List (List ℕ × ℤ)) (seen : ℤ → Bool) : Type 0 where
  pub known : (z : ℤ) → seen z ≡ has_number z values
  pub apart : shares_numbers values ≡ false

module _ {X : Type 0} (view : X → List ℕ × ℤ) (xs : List X) (i : ℕ) (x : X) (less : i < length xs) (there : x ≡ get_or xs i x) where
  taken : map view (take (i + 1) xs) ≡ map view (take i xs) ++ view x ∷ []
  taken = ap (map view) (take_more xs i x less) ∙ map-append view (take i xs) (get_or xs i x ∷ []) ∙ ap (λ y. map view (take i xs) ++ view y ∷ []) (sym there)

  pub apart_more : (number : ℤ) (seen next : ℤ → Bool) → number ≡ (view x).1 → NoneShared (map view (take i xs)) seen → seen number ≡ false → ((z : ℤ) → next z ≡ (if int_eq number z then true else seen z)) → NoneShared (map view (take (i + 1) xs)) next
  apart_more number seen next is so_far was updates = let new : seen (view x).1 ≡ false = ap seen (sym is) ∙ was in record {
    known = λ z. updates z ∙ ap (λ n. if int_eq n z then true else seen z) is ∙ by (int_eq (view x).1 z) (seen z) (list_any (λ u. int_eq u.1 z) (map view (take i xs))) (so_far.known z) ∙ sym (any_push (λ u. int_eq u.1 z) (map view (take i xs)) (view x)) ∙ ap (λ l. list_any (λ u. int_eq u.1 z) l) (sym taken);
    apart = ap shares_numbers taken ∙ shares_push (map view (take i xs)) (view x) ∙ ap (λ b. b || shares_numbers (map view (take i xs))) (sym (so_far.known (view x).1) ∙ new) ∙ so_far.apart;
  }
    where
      by : (a b c : Bool) → b ≡ c → (if a then true else b) ≡ (c || a)
      by true b true e = refl
      by true b false e = refl
      by false b true e = e
      by false b false e = e

  pub shared : (number : ℤ) (seen : ℤ → Bool) → number ≡ (view x).1 → NoneShared (map view (take i xs)) seen → seen number ≡ true → shares_numbers (map view xs) ≡ true
  shared number seen is so_far was =
      let old : seen (view x).1 ≡ true = ap seen (sym is) ∙ was in
      let here : shares_numbers (map view (take (i + 1) xs)) ≡ true = ap shares_numbers taken ∙ shares_push (map view (take i xs)) (view x) ∙ ap (λ b. b || shares_numbers (map view (take i xs))) (sym (so_far.known (view x).1) ∙ old) in
      ap shares_numbers (whole (i + 1) xs) ∙ shares_front (map view (take (i + 1) xs)) (map view (drop (i + 1) xs)) here
    where
      whole : (n : ℕ) (ys : List X) → map view ys ≡ map view (take n ys) ++ map view (drop n ys)
      whole zero ys = refl
      whole (suc n) [] = refl
      whole (suc n) (y ∷ ys) = ap (λ l. view y ∷ l) (whole n ys)

pub none_yet : (seen : ℤ → Bool) → ((z : ℤ) → seen z ≡ false) → NoneShared [] seen
none_yet seen none = record { known = none; apart = refl }

-- INDEXES

enumerate_push : {X : Type 0} (n : ℕ) (xs : List X) (x : X) → enumerate_from n (xs ++ x ∷ []) ≡ enumerate_from n xs ++ (n + length xs, x) ∷ []
enumerate_push n [] x = ap (λ k. (k, x) ∷ []) (sym (add-zero n))
enumerate_push n (y ∷ ys) x = ap (λ l. (n, y) ∷ l) (enumerate_push (n + 1) ys x ∙ ap (λ k. enumerate_from (n + 1) ys ++ (k, x) ∷ []) (omega arith))

pub index_more : (xs : List ℕ) (i : ℕ) → i < length xs → map (λ e. pos e.0) (enumerate_from 0 (take i xs)) ++ pos i ∷ [] ≡ map (λ e. pos e.0) (enumerate_from 0 (take (i + 1) xs))
index_more xs i less =
    sym (ap (λ l. map (λ e. pos e.0) (enumerate_from 0 l)) (take_more xs i 0 less)
    ∙ ap (map (λ e. pos e.0)) (enumerate_push 0 (take i xs) (get_or xs i 0))
    ∙ map-append (λ (e : ℕ × ℕ). pos e.0) (enumerate_from 0 (take i xs)) ((0 + length (take i xs), get_or xs i 0) ∷ [])
    ∙ ap (λ k. map (λ e. pos e.0) (enumerate_from 0 (take i xs)) ++ pos k ∷ []) (size i xs less))
  where
    size : (n : ℕ) (ys : List ℕ) → n < length ys → 0 + length (take n ys) ≡ n
    size zero ys h = refl
    size (suc n) [] h = absurd (omega (arith, h))
    size (suc n) (y ∷ ys) h = omega (arith, size n ys (omega (arith, h)))

pub index_pushed : (xs : List ℕ) (i : ℕ) (z : ℤ) (held now : List ℤ) → i < length xs → z ≡ pos i → held ≡ map (λ e. pos e.0) (enumerate_from 0 (take i xs)) → now ≡ held ++ z ∷ [] → now ≡ map (λ e. pos e.0) (enumerate_from 0 (take (i + 1) xs))
index_pushed xs i z held now less is so_far pushed = pushed ∙ ap (λ y. held ++ y ∷ []) is ∙ ap (λ (l : List ℤ). l ++ pos i ∷ []) so_far ∙ index_more xs i less

-- CHANGES OF A PLACE

get_set_same : {X : Type 0} (xs : List X) (k : ℕ) (y : X) → k < length xs → slice_get (slice_set xs k y) k ≡ Some y
get_set_same [] k y h = absurd (omega (arith, h))
get_set_same (x ∷ xs) zero y h = refl
get_set_same (x ∷ xs) (suc k) y h = get_set_same xs k y (omega (arith, h))

get_set_other : {X : Type 0} (xs : List X) (k i : ℕ) (y : X) → k ≢ i → slice_get (slice_set xs k y) i ≡ slice_get xs i
get_set_other [] k i y h = refl
get_set_other (x ∷ xs) zero zero y h = absurd (h refl)
get_set_other (x ∷ xs) zero (suc i) y h = refl
get_set_other (x ∷ xs) (suc k) zero y h = refl
get_set_other (x ∷ xs) (suc k) (suc i) y h = get_set_other xs k i y (λ e. h (ap suc e))

size_set : {X : Type 0} (xs : List X) (k : ℕ) (y : X) → length (slice_set xs k y) ≡ length xs
size_set [] k y = refl
size_set (x ∷ xs) zero y = refl
size_set (x ∷ xs) (suc k) y = ap suc (size_set xs k y)

get_at : {X : Type 0} (xs : List X) (k : ℕ) (x : X) → k < length xs → x ≡ get_or xs k x → slice_get xs k ≡ Some x
get_at [] k x h there = absurd (omega (arith, h))
get_at (y ∷ xs) zero x h there = ap Some (sym there)
get_at (y ∷ xs) (suc k) x h there = get_at xs k x (omega (arith, h)) there

pub changes_set : (k : ℕ) (change : Insides → Insides) (xs : List Inside) (x y : Inside) → k < length xs → x ≡ get_or xs k x → inside_view y ≡ change (inside_view x) → ChangesAt k change xs (slice_set xs k y)
changes_set k change xs x y less there changed = record {
  size = size_set xs k y;
  exact = λ i v h. by i v h (cases_eq k i);
}
  where
    by : (i : ℕ) (v : Insides) → option_map inside_view (slice_get xs i) ≡ Some v → (k ≡ i) ⊎ (k ≢ i) → option_map inside_view (slice_get (slice_set xs k y) i) ≡ Some (if i == k then change v else v)
    by i v h (inl e) =
        let was : inside_view x ≡ v = some_same (inside_view x) v (sym (ap (option_map inside_view) (ap (slice_get xs) (sym e) ∙ get_at xs k x less there)) ∙ h) in
        ap (λ j. option_map inside_view (slice_get (slice_set xs k y) j)) (sym e) ∙ ap (option_map inside_view) (get_set_same xs k y less)
        ∙ ap Some (changed ∙ ap change was) ∙ ap (λ b. Some (if b then change v else v)) (sym (eq_true i k (sym e)))
    by i v h (inr ne) = ap (option_map inside_view) (get_set_other xs k i y ne) ∙ h ∙ ap (λ b. Some (if b then change v else v)) (sym (eq_false i k (λ e. ne (sym e))))

get_none : {X : Type 0} (xs : List X) (i : ℕ) → length xs ≤ i → slice_get xs i ≡ None
get_none [] i h = refl
get_none (x ∷ xs) zero h = absurd (omega (arith, h))
get_none (x ∷ xs) (suc i) h = get_none xs i (omega (arith, h))

pub changes_none : (k : ℕ) (change : Insides → Insides) (xs : List Inside) → length xs ≤ k → ChangesAt k change xs xs
changes_none k change xs past = record {
  size = refl;
  exact = λ i v h. h ∙ ap (λ b. Some (if b then change v else v)) (sym (eq_false i k (λ e. none-some v (sym (ap (option_map inside_view) (get_none xs i (subst (λ j. length xs ≤ j) (sym e) past))) ∙ h))));
}

-- FIELDS

pub fields_start : (xs : List DeclaredField) → [] ++ xs ≡ xs
fields_start xs = refl

-- one more field is declared
pub fields_more : (two : Bool) (ts : Types) (scope : List ℕ) {X : Type 0} (view : X → FieldView) (xs : List X) (i : ℕ) (x : X) (synthetic next : ℕ) (held now : List DeclaredField) (d : DeclaredField) (whole : List DeclaredField) → i < length xs → x ≡ get_or xs i x → d ≡ declared_field two ts scope synthetic (view x) → now ≡ held ++ d ∷ [] → next ≡ (if is_optional_view two (view x) then synthetic + 1 else synthetic) → held ++ declared_fields two ts scope synthetic (map view (drop i xs)) ≡ whole → now ++ declared_fields two ts scope next (map view (drop (i + 1) xs)) ≡ whole
fields_more two ts scope view xs i x synthetic next held now d whole less there made pushed goes so_far =
    ap (λ l. l ++ declared_fields two ts scope next (map view (drop (i + 1) xs))) pushed
    ∙ append_assoc held (d ∷ []) (declared_fields two ts scope next (map view (drop (i + 1) xs)))
    ∙ ap (λ y. held ++ y ∷ declared_fields two ts scope next (map view (drop (i + 1) xs))) made
    ∙ ap (λ n. held ++ declared_field two ts scope synthetic (view x) ∷ declared_fields two ts scope n (map view (drop (i + 1) xs))) goes
    ∙ ap (λ l. held ++ declared_fields two ts scope synthetic (map view l)) (sym (drop_more xs i x less ∙ ap (λ y. y ∷ drop (i + 1) xs) (sym there)))
    ∙ so_far

past : {X : Type 0} (xs : List X) (i : ℕ) → length xs ≤ i → drop i xs ≡ []
past [] zero h = refl
past [] (suc i) h = refl
past (x ∷ xs) zero h = absurd (omega (arith, h))
past (x ∷ xs) (suc i) h = past xs i (omega (arith, h))

pub fields_end : (two : Bool) (ts : Types) (scope : List ℕ) {X : Type 0} (view : X → FieldView) (xs : List X) (i synthetic : ℕ) (held whole : List DeclaredField) → length xs ≤ i → held ++ declared_fields two ts scope synthetic (map view (drop i xs)) ≡ whole → held ≡ whole
fields_end two ts scope view xs i synthetic held whole far so_far =
    sym (append-nil held) ∙ ap (λ l. held ++ declared_fields two ts scope synthetic (map view l)) (sym (past xs i far)) ∙ so_far

-- ENTRIES

-- one more field, whose entry is added if it has one
pub entries_more : (ts : Types) {X : Type 0} (view : X → FieldView) (xs : List X) (i : ℕ) (x : X) (before held now : List DeclaredMessage) → i < length xs → x ≡ get_or xs i x → held ≡ before ++ filter_map (entry_of_field ts) (map view (take i xs)) → now ≡ held ++ filter_map (entry_of_field ts) (view x ∷ []) → now ≡ before ++ filter_map (entry_of_field ts) (map view (take (i + 1) xs))
entries_more ts view xs i x before held now less there so_far adds =
    adds ∙ ap (λ l. l ++ filter_map (entry_of_field ts) (view x ∷ [])) so_far
    ∙ append_assoc before (filter_map (entry_of_field ts) (map view (take i xs))) (filter_map (entry_of_field ts) (view x ∷ []))
    ∙ ap (λ l. before ++ l) (sym (filter_map-append (entry_of_field ts) (map view (take i xs)) (view x ∷ [])) ∙ ap (filter_map (entry_of_field ts)) (sym (taken view xs i x less there)))
  where
    taken : {Y Z : Type 0} (g : Y → Z) (ys : List Y) (j : ℕ) (y : Y) → j < length ys → y ≡ get_or ys j y → map g (take (j + 1) ys) ≡ map g (take j ys) ++ g y ∷ []
    taken g ys j y h e = ap (map g) (take_more ys j y h) ∙ map-append g (take j ys) (get_or ys j y ∷ []) ∙ ap (λ z. map g (take j ys) ++ g z ∷ []) (sym e)

pub at_most_one : (b : Bool) (n : ℕ) → (if b then n + 1 else n) ≤ n + 1
at_most_one true n = omega arith
at_most_one false n = omega arith

pub entry_there : (ts : Types) (f : FieldView) (key : Kind) → f.shape ≡ shape.Map key → filter_map (entry_of_field ts) (f ∷ []) ≡ entry_message ts f.name key f.kind ∷ []
entry_there ts f key is = by f.shape is
  where
    by : (s : Shape) → s ≡ shape.Map key → filter_map (entry_of_field ts) (record f { shape = s } ∷ []) ≡ entry_message ts f.name key f.kind ∷ []
    by s same = ap (λ x. filter_map (entry_of_field ts) (record f { shape = x } ∷ [])) same

pub no_entry : (ts : Types) (f : FieldView) (s : Shape) → f.shape ≡ s → entry_of_field ts (record f { shape = s }) ≡ None → filter_map (entry_of_field ts) (f ∷ []) ≡ []
no_entry ts f s is none = ap (λ x. filter_map (entry_of_field ts) (record f { shape = x } ∷ [])) is ∙ ap (λ o. cons_option o []) none

-- WHAT IS LISTED

mapped_size : {X Y : Type 0} (view : X → Y) (xs : List X) → length (map view xs) ≡ length xs
mapped_size view [] = refl
mapped_size view (x ∷ xs) = ap suc (mapped_size view xs)

pub listed_size : {X Y : Type 0} (view : X → Y) (xs : List X) (ys : List Y) → map view xs ≡ ys → length xs ≡ length ys
listed_size view xs ys is = sym (mapped_size view xs) ∙ ap length is

pub viewed_less : {X Y : Type 0} (view : X → Y) (xs : List X) (ys : List Y) (i : ℕ) → map view xs ≡ ys → i < length xs → i < length ys
viewed_less view xs ys i is less = let e = listed_size view xs ys is in omega (arith, less, e)

map_at : {X Y : Type 0} (view : X → Y) (xs : List X) (i : ℕ) (x : X) → i < length xs → x ≡ get_or xs i x → view x ≡ get_or (map view xs) i (view x)
map_at view [] i x less there = refl
map_at view (y ∷ xs) zero x less there = ap view there
map_at view (y ∷ xs) (suc i) x less there = map_at view xs i x (omega (arith, less)) there

pub viewed_at : {X Y : Type 0} (view : X → Y) (xs : List X) (ys : List Y) (i : ℕ) (x : X) → map view xs ≡ ys → i < length xs → x ≡ get_or xs i x → view x ≡ get_or ys i (view x)
viewed_at view xs ys i x is less there = subst (λ l. view x ≡ get_or l i (view x)) is (map_at view xs i x less there)

mapped_get : {X Y : Type 0} (view : X → Y) (xs : List X) (i : ℕ) (x : X) → i < length xs → x ≡ get_or xs i x → slice_get (map view xs) i ≡ Some (view x)
mapped_get view [] i x h e = absurd (omega (arith, h))
mapped_get view (y ∷ xs) zero x h e = ap (λ z. Some (view z)) (sym e)
mapped_get view (y ∷ xs) (suc i) x h e = mapped_get view xs i x (omega (arith, h)) e

pub viewed_get : {X Y : Type 0} (view : X → Y) (xs : List X) (ys : List Y) (i : ℕ) (x : X) → map view xs ≡ ys → i < length xs → x ≡ get_or xs i x → slice_get ys i ≡ Some (view x)
viewed_get view xs ys i x is less there = subst (λ l. slice_get l i ≡ Some (view x)) is (mapped_get view xs i x less there)

reverse_more : {X : Type 0} (x : X) (xs : List X) → reverse (x ∷ xs) ≡ reverse xs ++ x ∷ []
reverse_more x xs = reverse_onto xs x []

pub map-reverse : {X Y : Type 0} (f : X → Y) (xs : List X) → map f (reverse xs) ≡ reverse (map f xs)
map-reverse f [] = refl
map-reverse f (x ∷ xs) = ap (map f) (reverse_more x xs) ∙ map-append f (reverse xs) (x ∷ []) ∙ ap (λ l. l ++ f x ∷ []) (map-reverse f xs) ∙ sym (reverse_more (f x) (map f xs))

-- NAMES OF FILES

name_from : (names : List (List ℕ)) (i : ℕ) (o : Option (List ℕ)) → slice_get names i ≡ o → name_at names i ≡ unwrap_or o []
name_from names i None is = ap (λ x. or_none x) is
  where
    or_none : Option (List ℕ) → List ℕ
    or_none None = []
    or_none (Some n) = n
name_from names i (Some name) is = ap (λ x. or_none x) is
  where
    or_none : Option (List ℕ) → List ℕ
    or_none None = []
    or_none (Some n) = n

-- the name of the file that is there, or none
pub name_of_file : (files : List FileInfo) (i : ℕ) (f : FileInfo) → i < length files → f ≡ get_or files i f → name_at (map (λ (v : FileView). v.name) (map file_view files)) i ≡ string_bytes f.name
name_of_file files i f less there = name_from (map (λ (v : FileView). v.name) (map file_view files)) i (Some (string_bytes f.name)) (twice files i less there)
  where
    twice : (xs : List FileInfo) (j : ℕ) → j < length xs → f ≡ get_or xs j f → slice_get (map (λ (v : FileView). v.name) (map file_view xs)) j ≡ Some (string_bytes f.name)
    twice [] j h e = absurd (omega (arith, h))
    twice (x ∷ xs) zero h e = ap (λ (z : FileInfo). Some (string_bytes z.name)) (sym e)
    twice (x ∷ xs) (suc j) h e = twice xs j (omega (arith, h)) e

pub no_name : (files : List FileInfo) (i : ℕ) → length files ≤ i → name_at (map (λ (v : FileView). v.name) (map file_view files)) i ≡ []
no_name files i past = name_from (map (λ (v : FileView). v.name) (map file_view files)) i None (get_none (map (λ (v : FileView). v.name) (map file_view files)) i (let a = mapped_size file_view files in let b = mapped_size (λ (v : FileView). v.name) (map file_view files) in omega (arith, past, a, b)))
