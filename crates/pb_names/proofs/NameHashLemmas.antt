-- Names that are kept after their hashes.
use Rattle.std.proofs.Common.{◌≡◌, ℕ, List, Bool, true, false, refl, sym, ◌∙◌, ap, Bor, Some, if◌then◌else◌}
use Rattle.std.specs.declared.cmp.Ordering.{Ordering}
use Rattle.std.specs.declared.cmp.Ordering.TheVariants.{Less, Equal, Greater}
use Rattle.std.specs.Ordering.{is_eq, nat_cmp, ordering_then}
use Rattle.std.specs.Str.{bytes_eq}
use Rattle.std.specs.Cmp.Lexicographic.{slice_cmp}
use Rattle.std.specs.BTreeMap.{BTreeMap, get_by}
use Rattle.std.specs.BTreeMap as tree
use Rattle.std.specs.BTreeSet.{BTreeSet, contains_by}
use Rattle.std.specs.BTreeSet as sorted
use Rattle.std.proofs.lemmas.Cmp.{nat_cmp_total, tied_itself, nat_list_eq_equiv}
use Rattle.std.proofs.lemmas.Map.Text.{is_eq-slice_cmp}
use Rattle.std.proofs.lemmas.Slice.Eq.{bytes_eq-Decides}
use Rattle.pb_names.specs.NameHash.{name_hash, hashed_cmp}

-- how two names with their hashes compare
abbrev pub pair_cmp : (ℕ × Bor (List ℕ)) → (ℕ × Bor (List ℕ)) → Ordering
pair_cmp a b = ordering_then (nat_cmp a.0 b.0) (slice_cmp nat_cmp a.1.now b.1.now)

abbrev pub hashed : List ℕ → ℕ × Bor (List ℕ)
hashed x = (name_hash x, record { ref_ptr = (0, 0); now = x })

pub hashed_same : (a b : List ℕ) → is_eq (ordering_then (nat_cmp (name_hash a) (name_hash b)) (slice_cmp nat_cmp a b)) ≡ bytes_eq a b
hashed_same a b = by (bytes_eq a b) refl
  where
    apart : (o : Ordering) → bytes_eq a b ≡ false → is_eq (ordering_then o (slice_cmp nat_cmp a b)) ≡ false
    apart Less e = refl
    apart Equal e = is_eq-slice_cmp a b ∙ e
    apart Greater e = refl

    by : (same : Bool) → bytes_eq a b ≡ same → is_eq (ordering_then (nat_cmp (name_hash a) (name_hash b)) (slice_cmp nat_cmp a b)) ≡ same
    by true e =
        let hashes : nat_cmp (name_hash a) (name_hash b) ≡ Equal = ap (λ x. nat_cmp (name_hash a) (name_hash x)) (sym ((bytes_eq-Decides a b).0 e)) ∙ tied_itself nat_cmp_total (name_hash a) in
        ap (λ o. is_eq (ordering_then o (slice_cmp nat_cmp a b))) hashes ∙ is_eq-slice_cmp a b ∙ e
    by false e = apart (nat_cmp (name_hash a) (name_hash b)) e

kept_same : (a b : List ℕ) → is_eq (ordering_then (nat_cmp (name_hash a) (name_hash b)) (slice_cmp nat_cmp a b)) ≡ bytes_eq b a
kept_same a b = hashed_same a b ∙ nat_list_eq_equiv.symm a b

-- a value is put for a name
pub hashed_put : {X : Type 0} (m n : BTreeMap (ℕ × Bor (List ℕ)) X) (hash : ℕ) (key : Bor (List ℕ)) (v : X) → hash ≡ name_hash key.now → tree.Updates pair_cmp m n (hash, key) (Some v) → (x : List ℕ) → get_by (hashed_cmp x) n ≡ (if bytes_eq x key.now then Some v else get_by (hashed_cmp x) m)
hashed_put m n hash key v is updates x =
    updates.0 (hashed x) ∙ ap (λ h. if is_eq (ordering_then (nat_cmp h (name_hash x)) (slice_cmp nat_cmp key.now x)) then Some v else get_by (hashed_cmp x) m) is ∙ ap (λ b. if b then Some v else get_by (hashed_cmp x) m) (kept_same key.now x)

-- what is found for a name with its hash
pub hashed_get : {X : Type 0} (m : BTreeMap (ℕ × Bor (List ℕ)) X) (hash : ℕ) (key : Bor (List ℕ)) → hash ≡ name_hash key.now → tree.get pair_cmp m (hash, key) ≡ get_by (hashed_cmp key.now) m
hashed_get m hash key is = ap (λ h. get_by (λ k. ordering_then (nat_cmp h k.0) (slice_cmp nat_cmp key.now k.1.now)) m) is

-- a name is added
pub hashed_add : (s n : BTreeSet (ℕ × Bor (List ℕ))) (hash : ℕ) (key : Bor (List ℕ)) → hash ≡ name_hash key.now → sorted.Updates pair_cmp s n (hash, key) true → (x : List ℕ) → contains_by (hashed_cmp x) n ≡ (if bytes_eq x key.now then true else contains_by (hashed_cmp x) s)
hashed_add s n hash key is updates x =
    updates.0 (hashed x) ∙ ap (λ h. if is_eq (ordering_then (nat_cmp h (name_hash x)) (slice_cmp nat_cmp key.now x)) then true else contains_by (hashed_cmp x) s) is ∙ ap (λ b. if b then true else contains_by (hashed_cmp x) s) (kept_same key.now x)

pub hashed_contains : (s : BTreeSet (ℕ × Bor (List ℕ))) (hash : ℕ) (key : Bor (List ℕ)) → hash ≡ name_hash key.now → sorted.contains pair_cmp s (hash, key) ≡ contains_by (hashed_cmp key.now) s
hashed_contains s hash key is = ap (λ h. contains_by (λ k. ordering_then (nat_cmp h k.0) (slice_cmp nat_cmp key.now k.1.now)) s) is
