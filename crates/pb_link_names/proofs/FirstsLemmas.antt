-- Tables of first places.
use Rattle.std.proofs.Common.{◌≡◌, ℕ, zero, suc, ◌+◌, ◌≤◌, List, [], ◌∷◌, Bool, true, false, not, refl, sym, ◌∙◌, ap, subst, arith, cond, if◌then◌else◌, drop, length, Option, Some, None, option_map, nat_lt}
use Rattle.std.specs.Borrow.{Bor}
use Rattle.std.specs.Prelude.{slice_get, position}
use Rattle.std.specs.List.{position_from, position_or_len}
use Rattle.std.specs.BTreeMap.{Updates, get_by}
use Rattle.std.specs.Cmp.Lexicographic.{slice_cmp}
use Rattle.std.specs.declared.cmp.Ordering.{Ordering}
use Rattle.std.specs.declared.cmp.Ordering.TheVariants.{Less, Equal, Greater}
use Rattle.std.specs.Ordering.{is_eq, nat_cmp}
use Rattle.std.specs.Str.{bytes_eq}
use Rattle.std.proofs.lemmas.Bool.{false≢true}
use Rattle.std.proofs.lemmas.Option.{none-some}
use Rattle.std.proofs.lemmas.Bool.Decides.{nat_tests}
use Rattle.std.proofs.lemmas.Cmp.{nat_cmp_total, tied_itself, nat_list_eq_equiv}
use Rattle.std.proofs.lemmas.Map.Lookups.{exact_unsigned}
use Rattle.std.proofs.lemmas.Map.Text.{is_eq-slice_cmp}
use Rattle.std.proofs.lemmas.Slice.Eq.{bytes_eq-Decides}
use Rattle.pb_names.specs.NameHash.{name_hash}
use Rattle.pb_link_names.specs.declared.firsts.Firsts.{Firsts}
use Rattle.pb_link_names.specs.Firsts.{first_at, kept_at, other_at, place_by, is_kept_for_another}

some_same : {A : Type 0} (a b : A) → Some a ≡ Some b → a ≡ b
some_same a b h = cc

pub same_bytes : (a b : List ℕ) → bytes_eq a b ≡ true → a ≡ b
same_bytes a b h = (bytes_eq-Decides a b).0 h

-- PUTTING

equal_by : (o : Ordering) → is_eq o ≡ true → o ≡ Equal
equal_by Less e = absurd (false≢true e)
equal_by Equal e = refl
equal_by Greater e = absurd (false≢true e)

-- a name that another has the hash of is among the others
place_among_others : (name : List ℕ) (kept : Option (Bor (List ℕ) × ℕ)) (other : Option ℕ) → is_kept_for_another name kept ≡ true → place_by name kept other ≡ other
place_among_others name None other e = absurd (false≢true e)
place_among_others name (Some kept) other e = by (bytes_eq kept.0.now name) refl
  where
    by : (b : Bool) → bytes_eq kept.0.now name ≡ b → (if b then Some kept.1 else other) ≡ other
    by true same = absurd (false≢true (subst (λ b. not b ≡ true) same e))
    by false apart = refl

-- what is kept for a hash is of the one name or of none
place_of_another : (name key : List ℕ) (kept : Option (Bor (List ℕ) × ℕ)) (other : Option ℕ) → is_kept_for_another key kept ≡ false → bytes_eq key name ≡ false → place_by name kept other ≡ other
place_of_another name key None other e apart = refl
place_of_another name key (Some kept) other e apart = by (bytes_eq kept.0.now key) refl
  where
    by : (b : Bool) → bytes_eq kept.0.now key ≡ b → (if bytes_eq kept.0.now name then Some kept.1 else other) ≡ other
    by true same = ap (λ b. if b then Some kept.1 else other) (ap (λ x. bytes_eq x name) ((bytes_eq-Decides kept.0.now key).0 same) ∙ apart)
    by false differ = absurd (false≢true (sym (subst (λ b. not b ≡ false) differ e)))

module _ (old new : Firsts) (key : Bor (List ℕ)) (v : ℕ) where
  abbrev IsPut : Type 0
  IsPut = (name : List ℕ) → first_at new name ≡ (if bytes_eq name key.now then Some v else first_at old name)

  pub put_among_others : new.by_hash ≡ old.by_hash → is_kept_for_another key.now (kept_at old (name_hash key.now)) ≡ true → Updates (λ a b. slice_cmp nat_cmp a.now b.now) old.others new.others key (Some v) → IsPut
  put_among_others hashes another updates name =
      ap (λ m. place_by name (get_by (nat_cmp (name_hash name)) m) (other_at new name)) hashes ∙ ap (place_by name (kept_at old (name_hash name))) put ∙ by (bytes_eq name key.now) refl
    where
      put : other_at new name ≡ (if bytes_eq name key.now then Some v else other_at old name)
      put = updates.0 (record { ref_ptr = (0, 0); now = name }) ∙ ap (λ b. if b then Some v else other_at old name) (is_eq-slice_cmp key.now name ∙ nat_list_eq_equiv.symm key.now name)

      by : (b : Bool) → bytes_eq name key.now ≡ b → place_by name (kept_at old (name_hash name)) (if b then Some v else other_at old name) ≡ (if b then Some v else first_at old name)
      by true same = place_among_others name (kept_at old (name_hash name)) (Some v) (subst (λ x. is_kept_for_another x (kept_at old (name_hash x)) ≡ true) (sym ((bytes_eq-Decides name key.now).0 same)) another)
      by false apart = refl

  pub put_for_hash : new.others ≡ old.others → is_kept_for_another key.now (kept_at old (name_hash key.now)) ≡ false → Updates nat_cmp old.by_hash new.by_hash (name_hash key.now) (Some (key, v)) → IsPut
  put_for_hash others own updates name =
      ap (λ m. place_by name (kept_at new (name_hash name)) (get_by (λ (k : Bor (List ℕ)). slice_cmp nat_cmp name k.now) m)) others ∙ ap (λ k. place_by name k (other_at old name)) (updates.0 (name_hash name)) ∙ by (is_eq (nat_cmp (name_hash key.now) (name_hash name))) refl
    where
      here : (b : Bool) → bytes_eq key.now name ≡ b → name_hash key.now ≡ name_hash name → (if b then Some v else other_at old name) ≡ (if b then Some v else first_at old name)
      here true same hashes = refl
      here false apart hashes = sym (place_of_another name key.now (kept_at old (name_hash name)) (other_at old name) (subst (λ h. is_kept_for_another key.now (kept_at old h) ≡ false) hashes own) apart)

      elsewhere : (b : Bool) → bytes_eq name key.now ≡ b → is_eq (nat_cmp (name_hash key.now) (name_hash name)) ≡ false → first_at old name ≡ (if b then Some v else first_at old name)
      elsewhere true same apart = absurd (false≢true (sym apart ∙ ap (λ x. is_eq (nat_cmp (name_hash key.now) (name_hash x))) ((bytes_eq-Decides name key.now).0 same) ∙ ap is_eq (tied_itself nat_cmp_total (name_hash key.now))))
      elsewhere false differ apart = refl

      by : (b : Bool) → is_eq (nat_cmp (name_hash key.now) (name_hash name)) ≡ b → place_by name (if b then Some (key, v) else kept_at old (name_hash name)) (other_at old name) ≡ (if bytes_eq name key.now then Some v else first_at old name)
      by true tied =
          here (bytes_eq key.now name) refl (exact_unsigned (name_hash key.now) (name_hash name) (equal_by (nat_cmp (name_hash key.now) (name_hash name)) tied))
          ∙ ap (λ b. if b then Some v else first_at old name) (nat_list_eq_equiv.symm key.now name)
      by false apart = elsewhere (bytes_eq name key.now) refl apart

-- FIRST PLACES
past : {X : Type 0} (xs : List X) (i : ℕ) → length xs ≤ i → drop i xs ≡ []
past [] zero h = refl
past [] (suc i) h = refl
past (x ∷ xs) zero h = absurd (omega (arith, h))
past (x ∷ xs) (suc i) h = past xs i (omega (arith, h))

pub none_past : {X : Type 0} (xs : List X) (i : ℕ) (x : X) → length xs ≤ i → slice_get xs i ≡ Some x → ⊥
none_past [] i x h there = none-some x there
none_past (y ∷ ys) zero x h there = omega (arith, h)
none_past (y ∷ ys) (suc i) x h there = none_past ys i x (omega (arith, h)) there

pub position_past : {X : Type 0} (t : X → Bool) (xs : List X) (i : ℕ) → length xs ≤ i → position_from t i (drop i xs) ≡ None
position_past t xs i h = ap (position_from t i) (past xs i h)

moved : (n : ℕ) (b : Bool) (o : Option ℕ) → cond b (Some n) (option_map (λ i. n + 1 + i) o) ≡ option_map (λ i. n + i) (cond b (Some 0) (option_map (λ i. 1 + i) o))
moved n true o = ap Some (omega arith)
moved n false None = refl
moved n false (Some i) = ap Some (omega arith)

position_cons : {X : Type 0} (t : X → Bool) (x : X) (xs : List X) → position t (x ∷ xs) ≡ cond (t x) (Some 0) (option_map (λ i. 1 + i) (position t xs))
position_cons t x xs = by (t x) (position_or_len t xs) (length xs)
  where
    less : (p n : ℕ) (b : Bool) → nat_lt p n ≡ b → cond (nat_lt (1 + p) (suc n)) (Some (1 + p)) None ≡ option_map (λ i. 1 + i) (cond b (Some p) None)
    less p n true h = ap (λ b. cond b (Some (1 + p)) None) (yes p n h)
      where
        yes : (p n : ℕ) → nat_lt p n ≡ true → nat_lt (1 + p) (suc n) ≡ true
        yes p n h = grind (arith, nat_tests)
    less p n false h = ap (λ b. cond b (Some (1 + p)) None) (no p n h)
      where
        no : (p n : ℕ) → nat_lt p n ≡ false → nat_lt (1 + p) (suc n) ≡ false
        no p n h = grind (arith, nat_tests)

    none_less : (n : ℕ) → nat_lt 0 (suc n) ≡ true
    none_less n = grind (arith, nat_tests)

    by : (b : Bool) (p n : ℕ) → cond (nat_lt (cond (not b) (1 + p) 0) (suc n)) (Some (cond (not b) (1 + p) 0)) None ≡ cond b (Some 0) (option_map (λ i. 1 + i) (cond (nat_lt p n) (Some p) None))
    by true p n = ap (λ b. cond b (Some 0) None) (none_less n)
    by false p n = less p n (nat_lt p n) refl

pub position_from-moved : {X : Type 0} (t : X → Bool) (n : ℕ) (xs : List X) → position_from t n xs ≡ option_map (λ i. n + i) (position t xs)
position_from-moved t n [] = refl
position_from-moved t n (x ∷ xs) = ap (cond (t x) (Some n)) (position_from-moved t (n + 1) xs) ∙ moved n (t x) (position t xs) ∙ ap (option_map (λ i. n + i)) (sym (position_cons t x xs))

stays : (o : Option ℕ) → option_map (λ i. 0 + i) o ≡ o
stays None = refl
stays (Some i) = ap Some (omega arith)

pub position_from-first : {X : Type 0} (t : X → Bool) (xs : List X) → position_from t 0 xs ≡ position t xs
position_from-first t xs = position_from-moved t 0 xs ∙ stays (position t xs)

get_drop : {X : Type 0} (xs : List X) (i : ℕ) (x : X) → slice_get xs i ≡ Some x → drop i xs ≡ x ∷ drop (i + 1) xs
get_drop [] i x h = absurd (none-some x h)
get_drop (y ∷ ys) zero x h = ap (λ z. z ∷ ys) (some_same y x h)
get_drop (y ∷ ys) (suc i) x h = get_drop ys i x h ∙ ap (λ n. x ∷ drop n (y ∷ ys)) (one_on i)
  where
    one_on : (i : ℕ) → suc (i + 1) ≡ suc i + 1
    one_on i = omega arith

pub step_at : {X : Type 0} (t : X → Bool) (xs : List X) (i : ℕ) (x : X) → slice_get xs i ≡ Some x → position_from t i (drop i xs) ≡ cond (t x) (Some i) (position_from t (i + 1) (drop (i + 1) xs))
step_at t xs i x h = ap (position_from t i) (get_drop xs i x h)

-- one more place is put, before the others
pub firsts_more : {X : Type 0} (t : X → Bool) (xs : List X) (i k : ℕ) (x : X) (old new : Option ℕ) → k ≡ i + 1 → slice_get xs i ≡ Some x → old ≡ position_from t k (drop k xs) → new ≡ cond (t x) (Some i) old → new ≡ position_from t i (drop i xs)
firsts_more t xs i k x old new at there was now =
    now ∙ ap (cond (t x) (Some i)) (was ∙ ap (λ n. position_from t n (drop n xs)) at) ∙ sym (step_at t xs i x there)
