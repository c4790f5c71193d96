-- Where full names differ, a type that is seen is found by its full name, and a name has one place.
use Rattle.std.proofs.Common.{◌≡◌, ◌≢◌, ℕ, zero, suc, ◌+◌, ◌<◌, inl, List, [], ◌∷◌, Bool, true, false, ◌&&◌, ◌||◌, not, cond, length, take, refl, sym, ap, ◌∙◌, subst, arith, Some, None}
use Rattle.std.specs.Prelude.{slice_get, position, is_some, nat_lt, if◌then◌else◌}
use Rattle.std.specs.List.{AllByRecursion, list_any, position_or_len}
use Rattle.std.specs.Str.{bytes_eq}
use Rattle.std.proofs.lemmas.Bool.Decides.{nat_tests}
use Rattle.std.proofs.lemmas.Option.{none-some, slice_get_within}
use Rattle.std.proofs.lemmas.Slice.Eq.{bytes_eq-Decides}
use Rattle.pb_schema.specs.Names.{AllDiffer}
use Rattle.pb_link_names.specs.Declarations.{Declaration, is_named, is_type, full_name, has_name}
use Rattle.pb_link_names.specs.Lookup.{Seen, every_file, type_found, is_no_type, found, not_found, not_visible, not_a_type, unless_found, looked_up}
use Rattle.pb_link.proofs.ForestLemmas.{In, in_all, in_left, in_right}
use Rattle.pb_link.proofs.FlatLemmas.{and_left, and_right}
use Rattle.pb_link.proofs.ReorderLemmas.{differ_right, differ_apart}
use Rattle.pb_link.proofs.DeclaredNamesLemmas.{names_at, names_of}

some_same : {A : Type 0} (a b : A) → Some a ≡ Some b → a ≡ b
some_same a b h = cc

name_here : (d : Declaration) → is_named d.item ≡ true → In (full_name d) (names_at d)
name_here d is = subst (λ b. In (full_name d) (cond b (full_name d ∷ []) [])) (sym is) (inl refl)

pub name_among : (ds : List Declaration) (p : ℕ) (d : Declaration) → slice_get ds p ≡ Some d → is_named d.item ≡ true → In (full_name d) (names_of ds)
name_among [] p d there is = absurd (none-some d there)
name_among (x ∷ ds) zero d there is = in_left (full_name d) (names_at x) (names_of ds) (subst (λ y. In (full_name d) (names_at y)) (sym (some_same x d there)) (name_here d is))
name_among (x ∷ ds) (suc p) d there is = in_right (full_name d) (names_at x) (names_of ds) (name_among ds p d there is)

-- the first of two places has another name
apart : (x : Declaration) (ds : List Declaration) → AllDiffer (names_of (x ∷ ds)) → (q : ℕ) (d e : Declaration) → Some x ≡ Some d → slice_get ds q ≡ Some e → is_named d.item ≡ true → is_named e.item ≡ true → full_name d ≢ full_name e
apart x ds differ q d e first there is_d is_e =
    in_all (λ y. full_name d ≢ y) (names_of ds) (full_name e)
    (in_all (λ z. AllByRecursion (λ y. z ≢ y) (names_of ds)) (names_at x) (full_name d) (differ_apart (names_at x) (names_of ds) differ) (subst (λ y. In (full_name d) (names_at y)) (sym (some_same x d first)) (name_here d is_d)))
    (name_among ds q e there is_e)

pub one_place : (ds : List Declaration) → AllDiffer (names_of ds) → (p q : ℕ) (d e : Declaration) → slice_get ds p ≡ Some d → slice_get ds q ≡ Some e → is_named d.item ≡ true → is_named e.item ≡ true → full_name d ≡ full_name e → p ≡ q
one_place [] differ p q d e at_d at_e is_d is_e same = absurd (none-some d at_d)
one_place (x ∷ ds) differ zero zero d e at_d at_e is_d is_e same = refl
one_place (x ∷ ds) differ zero (suc q) d e at_d at_e is_d is_e same = absurd (apart x ds differ q d e at_d at_e is_d is_e same)
one_place (x ∷ ds) differ (suc p) zero d e at_d at_e is_d is_e same = absurd (apart x ds differ p e d at_e at_d is_e is_d (sym same))
one_place (x ∷ ds) differ (suc p) (suc q) d e at_d at_e is_d is_e same = ap suc (one_place ds (differ_right (names_at x) (names_of ds) differ) p q d e at_d at_e is_d is_e same)

-- THE FIRST THAT PASSES

first_passes : {X : Type 0} (t : X → Bool) (xs : List X) (p : ℕ) (x : X) → slice_get xs p ≡ Some x → t x ≡ true → ((q : ℕ) (y : X) → q < p → slice_get xs q ≡ Some y → t y ≡ false) → position_or_len t xs ≡ p
first_passes t [] p x there passes none = absurd (none-some x there)
first_passes t (z ∷ xs) zero x there passes none = ap (λ b. cond (not b) (1 + position_or_len t xs) 0) (ap t (some_same z x there) ∙ passes)
first_passes t (z ∷ xs) (suc p) x there passes none =
    let more : 1 + p ≡ suc p = omega arith in
    ap (λ b. cond (not b) (1 + position_or_len t xs) 0) (none 0 z (omega arith) refl) ∙ ap (λ n. 1 + n) (first_passes t xs p x there passes (λ q y less at. none (suc q) y (omega (arith, less)) at)) ∙ more

less_true : (a b : ℕ) → a < b → nat_lt a b ≡ true
less_true a b h = grind (arith, nat_tests)

position_is : {X : Type 0} (t : X → Bool) (xs : List X) (p : ℕ) (x : X) → slice_get xs p ≡ Some x → t x ≡ true → ((q : ℕ) (y : X) → q < p → slice_get xs q ≡ Some y → t y ≡ false) → position t xs ≡ Some p
position_is t xs p x there passes none =
    ap (λ n. cond (nat_lt n (length xs)) (Some n) None) (first_passes t xs p x there passes none) ∙ ap (λ b. cond b (Some p) None) (less_true p (length xs) (slice_get_within xs p x there))

both : (a b c : Bool) → a ≡ true → b ≡ true → c ≡ true → (a && b && c) ≡ true
both a b c x y z = ap (λ u. u && b && c) x ∙ ap (λ u. u && c) y ∙ z

pub has_its_name : (d : Declaration) (name : List ℕ) → is_named d.item ≡ true → full_name d ≡ name → has_name name d ≡ true
has_its_name d name is same = ap (λ b. b && bytes_eq name (full_name d)) is ∙ (bytes_eq-Decides name (full_name d)).1 (sym same)

pub named_by : (d : Declaration) (name : List ℕ) → has_name name d ≡ true → (is_named d.item ≡ true) × (name ≡ full_name d)
named_by d name h = (and_left (is_named d.item) (bytes_eq name (full_name d)) h, (bytes_eq-Decides name (full_name d)).0 (and_right (is_named d.item) (bytes_eq name (full_name d)) h))

no_earlier : (ds : List Declaration) → AllDiffer (names_of ds) → (p : ℕ) (d : Declaration) → slice_get ds p ≡ Some d → is_named d.item ≡ true → (q : ℕ) (e : Declaration) → q < p → slice_get ds q ≡ Some e → has_name (full_name d) e ≡ false
no_earlier ds differ p d there is q e less at = by (has_name (full_name d) e) refl
  where
    by : (b : Bool) → has_name (full_name d) e ≡ b → b ≡ false
    by false same = refl
    by true same = absurd (let h = named_by e (full_name d) same in let one = one_place ds differ p q d e there at is h.0 h.1 in omega (arith, less, one))

-- no earlier declaration has the name
pub none_before : (ds : List Declaration) → AllDiffer (names_of ds) → (p : ℕ) (d : Declaration) → slice_get ds p ≡ Some d → is_named d.item ≡ true → list_any (has_name (full_name d)) (take p ds) ≡ false
none_before ds differ p d there is = any_none (has_name (full_name d)) p ds (no_earlier ds differ p d there is)
  where
    any_none : (t : Declaration → Bool) (n : ℕ) (xs : List Declaration) → ((q : ℕ) (e : Declaration) → q < n → slice_get xs q ≡ Some e → t e ≡ false) → list_any t (take n xs) ≡ false
    any_none t zero xs none = refl
    any_none t (suc n) [] none = refl
    any_none t (suc n) (x ∷ xs) none = ap (λ b. b || list_any t (take n xs)) (none 0 x (omega arith) refl) ∙ any_none t n xs (λ q e less at. none (suc q) e (omega (arith, less)) at)

-- A type that is seen is found by its full name after a dot
pub is_found : (ds : List Declaration) → AllDiffer (names_of ds) → (sees : Seen) (scope name : List ℕ) (p : ℕ) (d : Declaration) → slice_get ds p ≡ Some d → is_type d.item ≡ true → is_named d.item ≡ true → full_name d ≡ name → sees d.file ≡ true → looked_up ds sees scope (46 ∷ name) ≡ found p
is_found ds differ sees scope name p d there a_type is same seen =
    ap (λ o. unless_found o (if is_some (type_found ds every_file scope (46 ∷ name)) then not_visible else (if is_no_type ds sees scope (46 ∷ name) then not_a_type else not_found)))
    (position_is (λ (e : Declaration). is_type e.item && sees e.file && has_name name e) ds p d there (both (is_type d.item) (sees d.file) (has_name name d) a_type seen (has_its_name d name is same)) before_it)
  where
    before_it : (q : ℕ) (e : Declaration) → q < p → slice_get ds q ≡ Some e → (is_type e.item && sees e.file && has_name name e) ≡ false
    before_it q e less at =
        let none : has_name name e ≡ false = ap (λ n. has_name n e) (sym same) ∙ no_earlier ds differ p d there is q e less at in
        ap (λ b. is_type e.item && sees e.file && b) none ∙ and_false (is_type e.item && sees e.file)
      where
        and_false : (b : Bool) → (b && false) ≡ false
        and_false true = refl
        and_false false = refl
