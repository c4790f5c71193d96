-- A map of contents beside the fields that it stands for.
use Rattle.std.proofs.Common.{◌≡◌, ℕ, ◌+◌, ◌<◌, ◌≤◌, arith, cond, List, [], ◌∷◌, Option, Some, None, option_map, Ordering, Less, Equal, Greater, nat_cmp, is_eq, Bor, refl, sym, ap, ◌∙◌}
use Rattle.std.specs.Prelude.{is_some}
use Rattle.std.specs.List.Sorted.{IsStrictlySortedBy}
use Rattle.std.specs.Map.{keys_of, lookup, remove_entry, set_value}
use Rattle.std.specs.Cmp.{ranks}
use Rattle.std.specs.Ordering.{match_ordering, MatchOrdering}
use Rattle.std.specs.BTreeMap.{insert_entry, is_at}
use Rattle.pb_value.specs.declared.body.Content.{Content}
use Rattle.pb_value.specs.Data.{Holding, Fields, field, get_field, put_field, drop_field}
use Rattle.pb_value.specs.View.{content_view, fields_view}
use Rattle.pb_value.specs.WellFormed.{RisesFrom}
use Rattle.pb_value.proofs.OrderLemmas.{RisesFrom-sorted}

fields_view-match_ordering : (o : Ordering) (a b c : List (ℕ × Content)) → fields_view (match_ordering o a b c) ≡ match_ordering o (fields_view a) (fields_view b) (fields_view c)
fields_view-match_ordering Less a b c = refl
fields_view-match_ordering Equal a b c = refl
fields_view-match_ordering Greater a b c = refl

pub fields_view-insert_entry : (fs : List (ℕ × Content)) (n : ℕ) (c : Content) → fields_view (insert_entry nat_cmp fs n c) ≡ put_field n (content_view c) (fields_view fs)
fields_view-insert_entry [] n c = refl
fields_view-insert_entry (f ∷ fs) n c = fields_view-match_ordering (nat_cmp n f.0) _ _ _ ∙ rw (fields_view-insert_entry fs n c)

found_or : (o : Ordering) (c : Content) (rest : Option Content) (d : Option Holding) → option_map content_view rest ≡ d → option_map content_view (cond (is_eq o) (Some c) rest) ≡ match_ordering o d (Some (content_view c)) d
found_or Less c rest d e = e
found_or Equal c rest d e = refl
found_or Greater c rest d e = e

pub fields_view-lookup : (n : ℕ) (fs : List (ℕ × Content)) → option_map content_view (lookup (is_at (nat_cmp n)) fs) ≡ get_field n (fields_view fs)
fields_view-lookup n [] = refl
fields_view-lookup n (f ∷ fs) = found_or (nat_cmp n f.0) f.1 _ _ (fields_view-lookup n fs)

content_of_ref : (r : Option (Bor Content)) → option_map (λ x. content_view x.now) r ≡ option_map content_view (option_map (λ x. x.now) r)
content_of_ref None = refl
content_of_ref (Some x) = refl

pub get_field-found : (r : Option (Bor Content)) (n : ℕ) (fs : List (ℕ × Content)) → option_map (λ x. x.now) r ≡ lookup (is_at (nat_cmp n)) fs → option_map (λ x. content_view x.now) r ≡ get_field n (fields_view fs)
get_field-found r n fs found = content_of_ref r ∙ ap (option_map content_view) found ∙ fields_view-lookup n fs

is_some-option_map : (r : Option Content) → is_some (option_map content_view r) ≡ is_some r
is_some-option_map None = refl
is_some-option_map (Some c) = refl

pub get_field-some : (n : ℕ) (fs : List (ℕ × Content)) → is_some (lookup (is_at (nat_cmp n)) fs) ≡ is_some (get_field n (fields_view fs))
get_field-some n fs = sym (is_some-option_map (lookup (is_at (nat_cmp n)) fs)) ∙ ap is_some (fields_view-lookup n fs)

removed_or : (o : Ordering) (f : ℕ × Content) (fs more : List (ℕ × Content)) (d : Fields) → fields_view more ≡ d
    → fields_view (cond (is_eq o) fs (f ∷ more)) ≡ match_ordering o (field f.0 (content_view f.1) d) (fields_view fs) (field f.0 (content_view f.1) d)
removed_or Less f fs more d e = ap (field f.0 (content_view f.1)) e
removed_or Equal f fs more d e = refl
removed_or Greater f fs more d e = ap (field f.0 (content_view f.1)) e

pub fields_view-remove_entry : (n : ℕ) (fs : List (ℕ × Content)) → fields_view (remove_entry (is_at (nat_cmp n)) fs) ≡ drop_field n (fields_view fs)
fields_view-remove_entry n [] = refl
fields_view-remove_entry n (f ∷ fs) = removed_or (nat_cmp n f.0) f fs _ _ (fields_view-remove_entry n fs)

-- WRITES THROUGH `get_mut`

found_above : (n low : ℕ) (c : Content) (fs : List (ℕ × Content)) → RisesFrom low (fields_view fs) → lookup (is_at (nat_cmp n)) fs ≡ Some c → low ≤ n
found_above n low c [] r e = absurd (cc)
found_above n low c (f ∷ fs) r e = told (nat_cmp n f.0) (ranks n f.0) r.0 (λ q. found_above n (f.0 + 1) c fs r.1 q) e
  where
    told :
        (o : Ordering) → MatchOrdering o (n < f.0) (n ≡ f.0) (f.0 < n) → low ≤ f.0 → (lookup (is_at (nat_cmp n)) fs ≡ Some c → f.0 + 1 ≤ n)
        → cond (is_eq o) (Some f.1) (lookup (is_at (nat_cmp n)) fs) ≡ Some c → low ≤ n
    told Less h l later q = let z = later q in omega arith
    told Equal h l later q = omega arith
    told Greater h l later q = omega arith

fields_view-set_value :
    (n low : ℕ) (c w : Content) (fs : List (ℕ × Content)) → RisesFrom low (fields_view fs) → lookup (is_at (nat_cmp n)) fs ≡ Some c
    → fields_view (set_value (is_at (nat_cmp n)) fs w) ≡ put_field n (content_view w) (fields_view fs)
fields_view-set_value n low c w [] r e = absurd (cc)
fields_view-set_value n low c w (f ∷ fs) r e = told (nat_cmp n f.0) (ranks n f.0) (λ q. fields_view-set_value n (f.0 + 1) c w fs r.1 q) e
  where
    told :
        (o : Ordering) → MatchOrdering o (n < f.0) (n ≡ f.0) (f.0 < n)
        → (lookup (is_at (nat_cmp n)) fs ≡ Some c → fields_view (set_value (is_at (nat_cmp n)) fs w) ≡ put_field n (content_view w) (fields_view fs))
        → cond (is_eq o) (Some f.1) (lookup (is_at (nat_cmp n)) fs) ≡ Some c
        → fields_view (cond (is_eq o) ((f.0, w) ∷ fs) (f ∷ set_value (is_at (nat_cmp n)) fs w))
        ≡ match_ordering o (field n (content_view w) (field f.0 (content_view f.1) (fields_view fs))) (field f.0 (content_view w) (fields_view fs))
        (field f.0 (content_view f.1) (put_field n (content_view w) (fields_view fs)))
    told Less h later q = absurd (let z : f.0 + 1 ≤ n = found_above n (f.0 + 1) c fs r.1 q in omega arith)
    told Equal h later q = refl
    told Greater h later q = ap (field f.0 (content_view f.1)) (later q)

-- what stands at a number that is found, and at one that isn't
pub get_field-at : (n : ℕ) (r : Option Content) (fs : List (ℕ × Content)) → lookup (is_at (nat_cmp n)) fs ≡ r → get_field n (fields_view fs) ≡ option_map content_view r
get_field-at n r fs e = sym (fields_view-lookup n fs) ∙ ap (option_map content_view) e

-- the field of a number becomes what a step makes of it
pub fields_view-step :
    (n : ℕ) (c w : Content) (fs : List (ℕ × Content)) (step : Option Holding → Holding) → IsStrictlySortedBy nat_cmp (keys_of fs)
    → lookup (is_at (nat_cmp n)) fs ≡ Some c → content_view w ≡ step (Some (content_view c))
    → fields_view (set_value (is_at (nat_cmp n)) fs w) ≡ put_field n (step (get_field n (fields_view fs))) (fields_view fs)
fields_view-step n c w fs step sorted found wrote =
    fields_view-set_value n 0 c w fs (RisesFrom-sorted fs sorted) found
    ∙ ap (λ (h : Holding). put_field n h (fields_view fs)) (wrote ∙ ap step (sym (get_field-at n (Some c) fs found)))

-- the field of a number becomes what it was
pub fields_view-same :
    (n : ℕ) (c w : Content) (fs : List (ℕ × Content)) → lookup (is_at (nat_cmp n)) fs ≡ Some c → content_view w ≡ content_view c
    → fields_view (set_value (is_at (nat_cmp n)) fs w) ≡ fields_view fs
fields_view-same n c w [] found wrote = absurd (cc)
fields_view-same n c w (f ∷ fs) found wrote = told (nat_cmp n f.0) (λ q. fields_view-same n c w fs q wrote) found
  where
    told :
        (o : Ordering) → (lookup (is_at (nat_cmp n)) fs ≡ Some c → fields_view (set_value (is_at (nat_cmp n)) fs w) ≡ fields_view fs)
        → cond (is_eq o) (Some f.1) (lookup (is_at (nat_cmp n)) fs) ≡ Some c
        → fields_view (cond (is_eq o) ((f.0, w) ∷ fs) (f ∷ set_value (is_at (nat_cmp n)) fs w)) ≡ fields_view (f ∷ fs)
    told Less later q = ap (field f.0 (content_view f.1)) (later q)
    told Equal later q = let same : f.1 ≡ c = cc in rw (wrote, same)
    told Greater later q = ap (field f.0 (content_view f.1)) (later q)

-- a field of a number where there was none becomes what a step makes of none
pub fields_view-first :
    (n : ℕ) (h : Holding) (fs : List (ℕ × Content)) (step : Option Holding → Holding) → lookup (is_at (nat_cmp n)) fs ≡ None → h ≡ step None
    → put_field n h (fields_view fs) ≡ put_field n (step (get_field n (fields_view fs))) (fields_view fs)
fields_view-first n h fs step gone made = ap (λ (g : Holding). put_field n g (fields_view fs)) (made ∙ ap step (sym (get_field-at n None fs gone)))
