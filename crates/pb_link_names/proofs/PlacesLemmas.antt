-- The places of full names.
use Rattle.std.proofs.Common.{◌≡◌, ℕ, zero, suc, ◌+◌, ◌-◌, ◌<◌, ◌≤◌, ◌⊎◌, inl, inr, ⊎_elim, List, [], ◌∷◌, length, drop, Bool, true, false, ◌&&◌, ◌||◌, refl, sym, ap, ◌∙◌, subst, arith, Option, Some, None, cond}
use Rattle.std.specs.Prelude.{slice_get, position, is_some}
use Rattle.std.specs.List.{position_from, list_any}
use Rattle.std.specs.Str.{bytes_eq}
use Rattle.std.proofs.lemmas.Bool.{cases_eq, false≢true}
use Rattle.std.proofs.lemmas.Option.{none-some}
use Rattle.std.proofs.lemmas.Slice.Eq.{bytes_eq-Decides}
use Rattle.pb_link_names.specs.Declarations.{Declaration, is_named, full_name, has_name}
use Rattle.pb_link_names.specs.Lookup.{Seen}
use Rattle.pb_link_names.specs.Firsts.{first_at}
use Rattle.pb_link_names.specs.Places.{ArePlaces, PutsPlace, next_place, counts, is_sought}
use Rattle.pb_link_names.specs.declared.places.Places.{Places}
use Rattle.pb_link_names.specs.declared.places.Want.{Want}
use Rattle.pb_link_names.proofs.AnyLemmas.{and_cases, and_both}
use Rattle.pb_link_names.proofs.FirstsLemmas.{none_past, position_from-first, step_at}

some_same : {A : Type 0} (a b : A) → Some a ≡ Some b → a ≡ b
some_same a b h = cc

-- one more declaration, before the others
pub places_more : (ds : List Declaration) (n : ℕ) (d : Declaration) (old new : Places) → slice_get ds n ≡ Some d → ArePlaces ds (n + 1) old → PutsPlace n d old new → ArePlaces ds n new
places_more ds n d old new there are puts = record {
  size = puts.size ∙ are.size;
  firsts = λ name. puts.firsts name ∙ ap (cond (has_name name d) (Some n)) (are.firsts name) ∙ sym (step_at (has_name name) ds n d there);
  next = λ i e from at named. ⊎_elim
      (λ same. let this : d ≡ e = some_same d e (sym there ∙ ap (slice_get ds) (sym same) ∙ at) in
      ap (next_place new) same ∙ puts.next (subst (λ x. is_named x.item ≡ true) (sym this) named) ∙ are.firsts (full_name d) ∙ ap (λ x. position_from (has_name (full_name x)) (n + 1) (drop (n + 1) ds)) this ∙ ap (λ k. position_from (has_name (full_name e)) (k + 1) (drop (k + 1) ds)) (sym same))
      (λ other. puts.others i other ∙ are.next i e (omega (arith, from, other)) at named)
      (cases_eq i n);
}

past : {X : Type 0} (xs : List X) (i : ℕ) → length xs ≤ i → drop i xs ≡ []
past [] zero h = refl
past [] (suc i) h = refl
past (x ∷ xs) zero h = absurd (omega (arith, h))
past (x ∷ xs) (suc i) h = past xs i (omega (arith, h))

pub places_none : (ds : List Declaration) (n : ℕ) (p : Places) → length ds ≤ n → length p.next.items ≡ length ds → ((name : List ℕ) → first_at p.firsts name ≡ None) → ArePlaces ds n p
places_none ds n p h size none = record {
  size = size;
  firsts = λ name. none name ∙ sym (ap (position_from (has_name name) n) (past ds n h));
  next = λ i d from at named. absurd (none_past ds i d (omega (arith, h, from)) at);
}

-- SEARCHING
abbrev pub seek : {X : Type 0} → (X → Bool) → List X → Option ℕ → Option ℕ
seek t xs None = None
seek t xs (Some p) = position_from t p (drop p xs)

-- a place, or none
abbrev pub IsPlaceOf : (Declaration → Bool) → List Declaration → Option ℕ → Type 0
IsPlaceOf h ds None = Unit {0}
IsPlaceOf h ds (Some p) = (d : Declaration) × (slice_get ds p ≡ Some d) × (h d ≡ true)

pub record Seeks (t h : Declaration → Bool) (ds : List Declaration) (from : ℕ) (next : Option ℕ) : Type 0 where
  pub onward : position_from t from (drop from ds) ≡ seek t ds next
  pub place : IsPlaceOf h ds next
  pub later : (p : ℕ) → next ≡ Some p → from ≤ p

get_none : {X : Type 0} (xs : List X) (i : ℕ) → length xs ≤ i → drop i xs ≡ []
get_none xs i h = past xs i h

there_or_past : {X : Type 0} (xs : List X) (i : ℕ) → ((x : X) × (slice_get xs i ≡ Some x)) ⊎ (length xs ≤ i)
there_or_past [] i = inr (omega arith)
there_or_past (x ∷ xs) zero = inl (x, refl)
there_or_past (x ∷ xs) (suc i) = ⊎_elim inl (λ h. inr (omega (arith, h))) (there_or_past xs i)

less_there : {X : Type 0} (xs : List X) (i : ℕ) (x : X) → slice_get xs i ≡ Some x → i < length xs
less_there [] i x h = absurd (none-some x h)
less_there (y ∷ ys) zero x h = omega arith
less_there (y ∷ ys) (suc i) x h = omega (arith, less_there ys i x h)

fails_too : (t h : Bool) → (t ≡ true → h ≡ true) → h ≡ false → t ≡ false
fails_too false h narrower fails = refl
fails_too true h narrower fails = absurd (false≢true (sym fails ∙ narrower refl))

seeks_here : (t h : Declaration → Bool) (ds : List Declaration) (from : ℕ) (d : Declaration) → slice_get ds from ≡ Some d → h d ≡ true → Seeks t h ds from (Some from)
seeks_here t h ds from d there passes = record { onward = refl; place = (d, there, passes); later = λ p e. omega (arith, some_same from p e) }

seeks_next : (t h : Declaration → Bool) (ds : List Declaration) (from : ℕ) (d : Declaration) (next : Option ℕ) → slice_get ds from ≡ Some d → t d ≡ false → Seeks t h ds (from + 1) next → Seeks t h ds from next
seeks_next t h ds from d next there fails rest = record {
  onward = step_at t ds from d there ∙ ap (λ b. cond b (Some from) (position_from t (from + 1) (drop (from + 1) ds))) fails ∙ rest.onward;
  place = rest.place;
  later = λ p e. omega (arith, rest.later p e);
}

seeks_past : (t h : Declaration → Bool) (ds : List Declaration) (from : ℕ) → length ds ≤ from → Seeks t h ds from None
seeks_past t h ds from over = record { onward = ap (position_from t from) (past ds from over); place = tt; later = λ p e. absurd (none-some p e) }

-- What a narrower test finds stands where the wider one finds something, or after that; by the declarations that are left.
seeks_from : (t h : Declaration → Bool) → ((d : Declaration) → t d ≡ true → h d ≡ true) → (ds : List Declaration) (left from : ℕ) → length ds ≤ from + left → Seeks t h ds from (position_from h from (drop from ds))
seeks_from t h narrower ds zero from enough = subst (Seeks t h ds from) (sym (ap (position_from h from) (past ds from (omega (arith, enough))))) (seeks_past t h ds from (omega (arith, enough)))
seeks_from t h narrower ds (suc left) from enough = by (there_or_past ds from) (seeks_from t h narrower ds left (from + 1) (omega (arith, enough)))
  where
    by_test : (d : Declaration) → slice_get ds from ≡ Some d → (b : Bool) → h d ≡ b → Seeks t h ds (from + 1) (position_from h (from + 1) (drop (from + 1) ds)) → Seeks t h ds from (cond b (Some from) (position_from h (from + 1) (drop (from + 1) ds)))
    by_test d there true is rest = seeks_here t h ds from d there is
    by_test d there false is rest = seeks_next t h ds from d (position_from h (from + 1) (drop (from + 1) ds)) there (fails_too (t d) (h d) (narrower d) is) rest

    by : ((d : Declaration) × (slice_get ds from ≡ Some d)) ⊎ (length ds ≤ from) → Seeks t h ds (from + 1) (position_from h (from + 1) (drop (from + 1) ds)) → Seeks t h ds from (position_from h from (drop from ds))
    by (inl at) rest = subst (Seeks t h ds from) (sym (step_at h ds from at.0 at.1)) (by_test at.0 at.1 (h at.0) refl rest)
    by (inr over) rest = subst (Seeks t h ds from) (sym (ap (position_from h from) (past ds from over))) (seeks_past t h ds from over)

pub seeks : (t h : Declaration → Bool) → ((d : Declaration) → t d ≡ true → h d ≡ true) → (ds : List Declaration) (from : ℕ) (next : Option ℕ) → next ≡ position_from h from (drop from ds) → Seeks t h ds from next
seeks t h narrower ds from next e = subst (Seeks t h ds from) (sym e) (seeks_from t h narrower ds (length ds) from (omega arith))

sought_named : (w : Want) (sees : Seen) (name : List ℕ) (d : Declaration) → is_sought w sees name d ≡ true → has_name name d ≡ true
sought_named w sees name d h = (and_cases (counts w sees d) (has_name name d) h).1

-- the search for a name, at the next place of it
pub record Searches (w : Want) (sees : Seen) (name : List ℕ) (ds : List Declaration) (next : Option ℕ) : Type 0 where
  pub onward : position (is_sought w sees name) ds ≡ seek (is_sought w sees name) ds next
  pub place : IsPlaceOf (has_name name) ds next

pub search_first : (w : Want) (sees : Seen) (name : List ℕ) (ds : List Declaration) (p : Places) (next : Option ℕ) → ArePlaces ds 0 p → next ≡ first_at p.firsts name → Searches w sees name ds next
search_first w sees name ds p next are e =
    let s = seeks (is_sought w sees name) (has_name name) (sought_named w sees name) ds 0 next (e ∙ are.firsts name) in
    record { onward = sym (position_from-first (is_sought w sees name) ds) ∙ s.onward; place = s.place }

pub search_within : (w : Want) (sees : Seen) (name : List ℕ) (ds : List Declaration) (i : ℕ) → Searches w sees name ds (Some i) → i < length ds
search_within w sees name ds i s = less_there ds i s.place.0 s.place.1

pub search_found : (w : Want) (sees : Seen) (name : List ℕ) (ds : List Declaration) (i : ℕ) (d : Declaration) → Searches w sees name ds (Some i) → slice_get ds i ≡ Some d → counts w sees d ≡ true → position (is_sought w sees name) ds ≡ Some i
search_found w sees name ds i d s at passes =
    let same : s.place.0 ≡ d = some_same s.place.0 d (sym s.place.1 ∙ at) in
    s.onward ∙ step_at (is_sought w sees name) ds i d at ∙ ap (λ b. cond b (Some i) (position_from (is_sought w sees name) (i + 1) (drop (i + 1) ds))) (and_both (counts w sees d) (has_name name d) passes (subst (λ x. has_name name x ≡ true) same s.place.2))

pub record NextSearch (w : Want) (sees : Seen) (name : List ℕ) (ds : List Declaration) (i : ℕ) (next : Option ℕ) : Type 0 where
  pub goes_on : Searches w sees name ds next
  pub later : (p : ℕ) → next ≡ Some p → i < p

pub search_more : (w : Want) (sees : Seen) (name : List ℕ) (ds : List Declaration) (p : Places) (i : ℕ) (d : Declaration) (next : Option ℕ) → ArePlaces ds 0 p → Searches w sees name ds (Some i) → slice_get ds i ≡ Some d → counts w sees d ≡ false → next ≡ next_place p i → NextSearch w sees name ds i next
search_more w sees name ds p i d next are s at fails e =
    let same : s.place.0 ≡ d = some_same s.place.0 d (sym s.place.1 ∙ at) in
    let named = and_cases (is_named d.item) (bytes_eq name (full_name d)) (subst (λ x. has_name name x ≡ true) same s.place.2) in
    let is : name ≡ full_name d = (bytes_eq-Decides name (full_name d)).0 named.1 in
    let rest = seeks (is_sought w sees name) (has_name name) (sought_named w sees name) ds (i + 1) next (e ∙ are.next i d (omega arith) at named.0 ∙ ap (λ n. position_from (has_name n) (i + 1) (drop (i + 1) ds)) (sym is)) in
    record {
      goes_on = record {
        onward = s.onward ∙ step_at (is_sought w sees name) ds i d at ∙ ap (λ b. cond b (Some i) (position_from (is_sought w sees name) (i + 1) (drop (i + 1) ds))) (ap (λ b. b && has_name name d) fails) ∙ rest.onward;
        place = rest.place;
      };
      later = λ q f. omega (arith, rest.later q f);
    }

-- how much is left
abbrev pub left_of : List Declaration → Option ℕ → ℕ
left_of ds None = 0
left_of ds (Some p) = length ds - p

-- a test passes somewhere where there is a first place
any_step : (b : Bool) (n : ℕ) (any : Bool) (o : Option ℕ) → any ≡ is_some o → (b || any) ≡ is_some (cond b (Some n) o)
any_step true n any o h = refl
any_step false n any o h = h

pub any_position : {X : Type 0} (t : X → Bool) (n : ℕ) (xs : List X) → list_any t xs ≡ is_some (position_from t n xs)
any_position t n [] = refl
any_position t n (x ∷ xs) = any_step (t x) n (list_any t xs) (position_from t (n + 1) xs) (any_position t (n + 1) xs)

pub places_step : (ds : List Declaration) (n k : ℕ) (d : Declaration) (old new : Places) → k ≡ n + 1 → slice_get ds n ≡ Some d → ArePlaces ds k old → PutsPlace n d old new → ArePlaces ds n new
places_step ds n k d old new e there are puts = places_more ds n d old new there (subst (λ m. ArePlaces ds m old) e are) puts

pub search_less : (ds : List Declaration) (i : ℕ) (next : Option ℕ) → i < length ds → ((p : ℕ) → next ≡ Some p → i < p) → left_of ds next < left_of ds (Some i)
search_less ds i None h later = omega (arith, h)
search_less ds i (Some p) h later = omega (arith, h, later p refl)

-- what is no package is found where a test passes somewhere
pub either_found : (t : Declaration → Bool) (ds : List Declaration) (found other : Bool) → other ≡ false → found ≡ is_some (position t ds) → found ≡ (other || list_any t ds)
either_found t ds found other none is = is ∙ sym (any_position t 0 ds ∙ ap is_some (position_from-first t ds)) ∙ sym (ap (λ b. b || list_any t ds) none)
