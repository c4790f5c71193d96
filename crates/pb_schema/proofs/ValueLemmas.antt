-- The numbers of an enum's values.
use Rattle.std.proofs.Common.{pos, ◌-ℤ◌, ◌+ℤ◌, ◌+◌, ◌⊎◌, inl, inr, String, Global, string_bytes, map, replicate, set, ◌≡◌, ℕ, ℤ, zero, suc, ◌<◌, ◌≤◌, Bool, true, false, ◌||◌, List, [], ◌∷◌, ◌++◌, length, get_or, refl, sym, ◌∙◌, ap, subst, arith, Option, Some, None, cond, find, option_map}
use Rattle.std.specs.Prelude.{IfSome, MatchOption, slice_get, IsTrue}
use Rattle.std.proofs.Math.IntN.{ -ℤ-+ℤ_cancel}
use Rattle.std.specs.List.{list_any, position_from}
use Rattle.std.specs.Option.{is_some}
use Rattle.std.specs.Ordering.{int_eq, int_cmp}
use Rattle.std.specs.BTreeMap.{BTreeMap, get}
use Rattle.std.proofs.lemmas.List.{length-map}
use Rattle.std.proofs.lemmas.Bool.Decides.{Decides-int_eq}
use Rattle.pb_schema.specs.declared.tables.values.ValueTable.{ValueTable}
use Rattle.pb_schema.specs.Types.{EnumView}
use Rattle.pb_schema.specs.EnumValues.{values_of_enum, value_name}
use Rattle.pb_schema.proofs.LookupLemmas.{get_viewed}
use Rattle.pb_schema.specs.Tables.{or_first, AreFirstsOf, AreMarksOf, IsValueTable, AreValueTables}

-- THE FIRST VALUE OF A NUMBER

-- one more value is the first of its number, where none before it has the number
pub position_from-push : {X : Type 0} (t : X → Bool) (i : ℕ) (xs : List X) (x : X) → position_from t i (xs ++ x ∷ []) ≡ or_first (position_from t i xs) (t x) (i + length xs)
position_from-push t i [] x = ap (λ k. cond (t x) (Some k) None) (omega arith)
position_from-push t i (y ∷ ys) x = by_test (t y) (position_from-push t (i + 1) ys x ∙ ap (or_first (position_from t (i + 1) ys) (t x)) (omega arith))
  where
    by_test : (b : Bool) → position_from t (i + 1) (ys ++ x ∷ []) ≡ or_first (position_from t (i + 1) ys) (t x) (i + length (y ∷ ys)) → cond b (Some i) (position_from t (i + 1) (ys ++ x ∷ [])) ≡ or_first (cond b (Some i) (position_from t (i + 1) ys)) (t x) (i + length (y ∷ ys))
    by_test true later = refl
    by_test false later = later

-- a place is there where a value passes
pub has_place : {X : Type 0} (t : X → Bool) (i : ℕ) (xs : List X) → is_some (position_from t i xs) ≡ list_any t xs
has_place t i [] = refl
has_place t i (x ∷ xs) = by_test (t x) (has_place t (i + 1) xs)
  where
    by_test : (b : Bool) → is_some (position_from t (i + 1) xs) ≡ list_any t xs → is_some (cond b (Some i) (position_from t (i + 1) xs)) ≡ (b || list_any t xs)
    by_test true later = refl
    by_test false later = later

some_same : {X : Type 0} {x y : X} → ◌≡◌ {A = Option X} (Some x) (Some y) → x ≡ y
some_same p = cc

none_some : {X : Type 0} {x : X} → ◌≡◌ {A = Option X} None (Some x) → ⊥
none_some p = cc

-- what is found is at the place
found_there : {X : Type 0} (t : X → Bool) (i k : ℕ) (xs : List X) → position_from t i xs ≡ Some k → (j : ℕ) × (k ≡ i + j) × (j < length xs) × (find t xs ≡ slice_get xs j)
found_there t i k [] e = absurd (none_some e)
found_there t i k (x ∷ xs) e = by_test (t x) (found_there t (i + 1) k xs) e
  where
    by_test : (b : Bool) → (position_from t (i + 1) xs ≡ Some k → (j : ℕ) × (k ≡ i + 1 + j) × (j < length xs) × (find t xs ≡ slice_get xs j)) → cond b (Some i) (position_from t (i + 1) xs) ≡ Some k → (j : ℕ) × (k ≡ i + j) × (j < length (x ∷ xs)) × (cond b (Some x) (find t xs) ≡ slice_get (x ∷ xs) j)
    by_test true later e = (zero, omega (arith, some_same e), omega arith, refl)
    by_test false later e = let r = later e in (suc r.0, omega (arith, r.1), omega (arith, r.2), r.3)

found_nowhere : {X : Type 0} (t : X → Bool) (i : ℕ) (xs : List X) → position_from t i xs ≡ None → find t xs ≡ None
found_nowhere t i [] e = refl
found_nowhere t i (x ∷ xs) e = by_test (t x) (found_nowhere t (i + 1) xs) e
  where
    by_test : (b : Bool) → (position_from t (i + 1) xs ≡ None → find t xs ≡ None) → cond b (Some i) (position_from t (i + 1) xs) ≡ None → cond b (Some x) (find t xs) ≡ None
    by_test true later e = absurd (none_some (sym e))
    by_test false later e = later e

int_eq-sym : (x y : ℤ) → int_eq x y ≡ int_eq y x
int_eq-sym x y = same_answer (int_eq x y) (int_eq y x) (λ e. (Decides-int_eq y x).1 (sym ((Decides-int_eq x y).0 e))) (λ e. (Decides-int_eq x y).1 (sym ((Decides-int_eq y x).0 e)))
  where
    same_answer : (a b : Bool) → (a ≡ true → b ≡ true) → (b ≡ true → a ≡ true) → a ≡ b
    same_answer true b there back = sym (there refl)
    same_answer false true there back = back refl
    same_answer false false there back = refl

-- nothing is noted where a place is there
pub noted_already : (at : ℤ → Option ℕ) (place : ℕ) (x : ℤ) → is_some (at x) ≡ true → (z : ℤ) → at z ≡ or_first (at z) (int_eq x z) place
noted_already at place x there z = by_test (int_eq x z) refl
  where
    keep : (o : Option ℕ) → is_some o ≡ true → o ≡ or_first o true place
    keep None h = absurd (off h)
      where
        off : false ≡ true → ⊥
        off p = cc
    keep (Some k) h = refl

    pass : (o : Option ℕ) → o ≡ or_first o false place
    pass None = refl
    pass (Some k) = refl

    by_test : (b : Bool) → int_eq x z ≡ b → at z ≡ or_first (at z) b place
    by_test true same = keep (at z) (ap (λ y. is_some (at y)) (sym ((Decides-int_eq x z).0 same)) ∙ there)
    by_test false other = pass (at z)

none_is : (o : Option ℕ) → is_some o ≡ false → o ≡ None
none_is None h = refl
none_is (Some k) h = absurd (on h)
  where
    on : true ≡ false → ⊥
    on p = cc

-- a place that is noted where none was
pub noted : (at new : ℤ → Option ℕ) (place : ℕ) (x : ℤ) → is_some (at x) ≡ false → ((z : ℤ) → new z ≡ cond (int_eq x z) (Some place) (at z)) → (z : ℤ) → new z ≡ or_first (at z) (int_eq x z) place
noted at new place x none puts z = by_test (int_eq x z) refl (puts z)
  where
    by_test : (b : Bool) → int_eq x z ≡ b → new z ≡ cond b (Some place) (at z) → new z ≡ or_first (at z) b place
    by_test true same put = put ∙ ap (λ o. or_first o true place) (sym (none_is (at z) (ap (λ y. is_some (at y)) (sym ((Decides-int_eq x z).0 same)) ∙ none)))
    by_test false other put = put ∙ keep (at z)
      where
        keep : (o : Option ℕ) → o ≡ or_first o false place
        keep None = refl
        keep (Some k) = refl

abbrev pub view_of : String Global × ℤ → List ℕ × ℤ
view_of v = (string_bytes v.0, v.1)

-- one more value, which is noted where no value before it has its number
pub firsts-more : (vs : List (List ℕ × ℤ)) (v : List ℕ × ℤ) (old new : BTreeMap ℤ ℕ) → AreFirstsOf vs old → ((z : ℤ) → get int_cmp new z ≡ or_first (get int_cmp old z) (int_eq v.1 z) (length vs)) → AreFirstsOf (vs ++ v ∷ []) new
firsts-more vs v old new are puts z =
    let count : length vs ≡ 0 + length vs = omega arith in
    puts z ∙ ap (λ o. or_first o (int_eq v.1 z) (length vs)) (are z) ∙ ap (or_first (position_from (λ (w : List ℕ × ℤ). int_eq w.1 z) 0 vs) (int_eq v.1 z)) count ∙ sym (position_from-push (λ (w : List ℕ × ℤ). int_eq w.1 z) 0 vs v)

-- what a look-up answers is the place
pub place_found : (vs : List (List ℕ × ℤ)) (firsts : BTreeMap ℤ ℕ) (z : ℤ) (o : Option ℕ) → AreFirstsOf vs firsts → o ≡ get int_cmp firsts z → position_from (λ v. int_eq v.1 z) 0 vs ≡ o
place_found vs firsts z o are e = sym (are z) ∙ sym e

pub place_within : (vs : List (String Global × ℤ)) (z : ℤ) (k : ℕ) → position_from (λ v. int_eq v.1 z) 0 (map view_of vs) ≡ Some k → k < length vs
place_within vs z k e = let r = found_there (λ (v : List ℕ × ℤ). int_eq v.1 z) 0 k (map view_of vs) e in omega (arith, r.1, r.2, length-map vs view_of)

pub named_there : (vs : List (String Global × ℤ)) (z : ℤ) (k : ℕ) (v : String Global × ℤ) → position_from (λ w. int_eq w.1 z) 0 (map view_of vs) ≡ Some k → v ≡ get_or vs k v → Some (string_bytes v.0) ≡ value_name z (map view_of vs)
named_there vs z k v e is =
    let r = found_there (λ (w : List ℕ × ℤ). int_eq w.1 z) 0 k (map view_of vs) e in
    let at : r.0 ≡ k = omega (arith, r.1) in
    let found : find (λ (w : List ℕ × ℤ). int_eq w.1 z) (map view_of vs) ≡ Some (view_of v) = r.3 ∙ ap (slice_get (map view_of vs)) at ∙ get_viewed view_of vs k v (place_within vs z k e) is in
    sym (ap (option_map (λ (w : List ℕ × ℤ). w.0)) found)

pub named_nowhere : (vs : List (List ℕ × ℤ)) (z : ℤ) → position_from (λ w. int_eq w.1 z) 0 vs ≡ None → None ≡ value_name z vs
named_nowhere vs z e = sym (ap (option_map (λ (w : List ℕ × ℤ). w.0)) (found_nowhere (λ (w : List ℕ × ℤ). int_eq w.1 z) 0 vs e))

-- the number of each value is that of a value
pub number_there : (vs : List (String Global × ℤ)) (k : ℕ) (v : String Global × ℤ) → k < length vs → v ≡ get_or vs k v → list_any (λ w. int_eq w.1 v.1) (map view_of vs) ≡ true
number_there [] k v h at = absurd (omega (arith, h))
number_there (w ∷ ws) zero v h at = ap (λ b. b || list_any (λ u. int_eq u.1 v.1) (map view_of ws)) ((Decides-int_eq w.1 v.1).1 (ap (λ u. u.1) (sym at)))
number_there (w ∷ ws) (suc k) v h at = either (int_eq w.1 v.1) _ (number_there ws k v (omega (arith, h)) at)
  where
    either : (a b : Bool) → b ≡ true → (a || b) ≡ true
    either true b h' = refl
    either false b h' = h'

-- no marks yet
none_marked : (n i : ℕ) → slice_get (replicate n false) i ≡ Some true → ⊥
none_marked zero i at = none_some at
none_marked (suc n) zero at = off at
  where
    off : ◌≡◌ {A = Option Bool} (Some false) (Some true) → ⊥
    off p = cc
none_marked (suc n) (suc i) at = none_marked n i at

pub no_marks : (vs : List (List ℕ × ℤ)) (least : ℤ) (n : ℕ) → AreMarksOf vs least (replicate n false)
no_marks vs least n i at z far = absurd (none_marked n i at)

marked-set : (Q : ℕ → Type 0) (marks : List Bool) (d : ℕ) → Q d → ((i : ℕ) → slice_get marks i ≡ Some true → Q i) → (i : ℕ) → slice_get (set marks d true) i ≡ Some true → Q i
marked-set Q [] d there holds i at = absurd (none_some at)
marked-set Q (m ∷ ms) zero there holds zero at = there
marked-set Q (m ∷ ms) zero there holds (suc i) at = holds (suc i) at
marked-set Q (m ∷ ms) (suc d) there holds zero at = holds zero at
marked-set Q (m ∷ ms) (suc d) there holds (suc i) at = marked-set (λ j. Q (suc j)) ms d there (λ j e. holds (suc j) e) i at

-- numbers that are equally far from the least are the same
same_distance : (x y least : ℤ) → x -ℤ least ≡ y -ℤ least → x ≡ y
same_distance x y least e = sym (-ℤ-+ℤ_cancel x least) ∙ ap (λ z. z +ℤ least) e ∙ -ℤ-+ℤ_cancel y least

-- a mark for one of the values
pub one_mark : (vs : List (List ℕ × ℤ)) (least x : ℤ) (d : ℕ) (marks : List Bool) → x -ℤ least ≡ pos d → list_any (λ v. int_eq v.1 x) vs ≡ true → AreMarksOf vs least marks → AreMarksOf vs least (set marks d true)
one_mark vs least x d marks far there are =
    marked-set (λ i. (z : ℤ) → z -ℤ least ≡ pos i → IsTrue (list_any (λ v. int_eq v.1 z) vs)) marks d (λ z e. subst (λ (y : ℤ). IsTrue (list_any (λ v. int_eq v.1 y) vs)) (same_distance x z least (far ∙ sym e)) there) are

-- the mark of a value, where there is space for it
pub more_marks : (vs : List (List ℕ × ℤ)) (least x : ℤ) (o : Option ℕ) (old new : List Bool) → IfSome o (λ d. x -ℤ least ≡ pos d)
    → MatchOption o (new ≡ old) (λ d. (new ≡ old) ⊎ (new ≡ set old d true)) → list_any (λ v. int_eq v.1 x) vs ≡ true → AreMarksOf vs least old → AreMarksOf vs least new
more_marks vs least x None old new far same there are = subst (AreMarksOf vs least) (sym same) are
more_marks vs least x (Some d) old new far (inl same) there are = subst (AreMarksOf vs least) (sym same) are
more_marks vs least x (Some d) old new far (inr one) there are = subst (AreMarksOf vs least) (sym one) (one_mark vs least x d old far there are)

-- what the table of an enum answers
pub table_answers : (es : List EnumView) (tables : List ValueTable) (e : ℕ) (table : ValueTable) (z : ℤ) (b : Bool) → AreValueTables es tables → e < length tables → table ≡ get_or tables e table → ((vs : List (List ℕ × ℤ)) → IsValueTable vs table → b ≡ list_any (λ v. int_eq v.1 z) vs) → b ≡ list_any (λ v. int_eq v.1 z) (values_of_enum (slice_get es e))
table_answers es [] e table z b are h is answers = absurd (omega (arith, h))
table_answers [] (x ∷ xs) e table z b are h is answers = absurd are
table_answers (t ∷ ts) (x ∷ xs) zero table z b are h is answers = answers t.values (subst (IsValueTable t.values) (sym is) are.0)
table_answers (t ∷ ts) (x ∷ xs) (suc e) table z b are h is answers = table_answers ts xs e table z b are.1 (omega (arith, h)) is answers

pub no_table_answers : (es : List EnumView) (tables : List ValueTable) (e : ℕ) (z : ℤ) → AreValueTables es tables → length tables ≤ e → false ≡ list_any (λ v. int_eq v.1 z) (values_of_enum (slice_get es e))
no_table_answers [] [] e z are h = refl
no_table_answers [] (x ∷ xs) e z are h = absurd are
no_table_answers (t ∷ ts) [] e z are h = absurd are
no_table_answers (t ∷ ts) (x ∷ xs) zero z are h = absurd (omega (arith, h))
no_table_answers (t ∷ ts) (x ∷ xs) (suc e) z are h = no_table_answers ts xs e z are.1 (omega (arith, h))
