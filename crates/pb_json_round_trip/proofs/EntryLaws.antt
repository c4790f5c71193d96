-- Lists, maps and fields that are read one after another, in order.
use Rattle.std.proofs.Common.{◌≡◌, ◌≢◌, ℕ, ◌+◌, ◌<◌, ◌≤◌, Bool, true, false, cond, ◌||◌, eqb, List, [], ◌∷◌, inl, inr, refl, sym, ap, subst, arith, le-ltb, lt-ltb, ne_eqb, eqb-true, Ordering, Less, Equal, Greater}
use Rattle.std.specs.BTreeSet.{insert_key}
use Rattle.std.specs.Ordering.{bool_cmp, is_eq, match_ordering, nat_cmp}
use Rattle.std.specs.Prelude.{is_some}
use Rattle.std.proofs.lemmas.Bool.{cases_Bool, cases_lt}
use Rattle.std.proofs.lemmas.Bool.Decides.{Decides-int_eq}
use Rattle.std.proofs.lemmas.Slice.Eq.{bytes_eq-Decides}
use Rattle.pb_schema.specs.Scalar.{Scalar, int32, int64, uint32, uint64, boolean, text, key_cmp}
use Rattle.pb_value.specs.Data.{Datum, Entries, no_entries, entry, get_entry, put_entry, is_same_key}
use Rattle.pb_value.specs.Data.{Holding, Fields, no_fields, field, put_field}
use Rattle.pb_value.specs.WellFormed.{IsBelow}
use Rattle.pb_value.proofs.KeyLemmas.{key_cmp-flip, key_cmp-trans}
use Rattle.pb_json_read.specs.Steps.{has}

-- ---- maps

abbrev pub joined_entries : Entries → Entries → Entries
joined_entries no_entries es = es
joined_entries (entry x d ds) es = entry x d (joined_entries ds es)

pub joined_none : (es : Entries) → joined_entries es no_entries ≡ es
joined_none no_entries = refl
joined_none (entry x d es) = ap (entry x d) (joined_none es)

pub joined_more : (ds : Entries) (x : Scalar) (d : Datum) (es : Entries) → joined_entries (joined_entries ds (entry x d no_entries)) es ≡ joined_entries ds (entry x d es)
joined_more no_entries x d es = refl
joined_more (entry y e ds) x d es = ap (entry y e) (joined_more ds x d es)

-- each key is below this one
abbrev pub AllBelow : Scalar → Entries → Type 0
AllBelow x no_entries = Unit {0}
AllBelow x (entry y d es) = (key_cmp y x ≡ Less) × AllBelow x es

-- each key is below the first of the others
abbrev pub AreBefore : Entries → Entries → Type 0
AreBefore before no_entries = Unit {0}
AreBefore before (entry x d es) = AllBelow x before

below_next : (x y : Scalar) (d : Datum) (es : Entries) → key_cmp x y ≡ Less → AllBelow x es → AllBelow y (joined_entries es (entry x d no_entries))
below_next x y d no_entries l h = (l, tt)
below_next x y d (entry z e es) l h = (key_cmp-trans z x y h.0 l, below_next x y d es l h.1)

pub next_before : (x : Scalar) (d : Datum) (es before : Entries) → IsBelow x es → AllBelow x before → AreBefore (joined_entries before (entry x d no_entries)) es
next_before x d no_entries before l h = tt
next_before x d (entry y e es) before l h = below_next x y d before l h

pub put_last : (x : Scalar) (d : Datum) (es : Entries) → AllBelow x es → put_entry x d es ≡ joined_entries es (entry x d no_entries)
put_last x d no_entries h = refl
put_last x d (entry y e es) h = rw (key_cmp-flip y x h.0) (ap (entry y e) (put_last x d es h.1))

bool_same : (x y : Bool) → is_eq (bool_cmp x y) ≡ true → x ≡ y
bool_same true true e = refl
bool_same false false e = refl
bool_same true false e = absurd (cc)
bool_same false true e = absurd (cc)

same_is : (x y : Scalar) → is_same_key x y ≡ true → x ≡ y
same_is (int32 x) (int32 y) e = ap (λ (z : _). int32 z) ((Decides-int_eq x y).0 e)
same_is (int64 x) (int64 y) e = ap (λ (z : _). int64 z) ((Decides-int_eq x y).0 e)
same_is (uint32 x) (uint32 y) e = ap (λ (n : ℕ). uint32 n) (eqb-true x y e)
same_is (uint64 x) (uint64 y) e = ap (λ (n : ℕ). uint64 n) (eqb-true x y e)
same_is (boolean x) (boolean y) e = ap (λ (b : Bool). boolean b) (bool_same x y e)
same_is (text x) (text y) e = ap (λ (s : List ℕ). text s) ((bytes_eq-Decides x y).0 e)
same_is x y e = absurd (cc)

less_itself : (x : Scalar) → key_cmp x x ≡ Less → ⊥
less_itself x e = let f = key_cmp-flip x x e in absurd (cc)

not_same : (x y : Scalar) → key_cmp y x ≡ Less → is_same_key x y ≡ false
not_same x y l =
    elim (cases_Bool (is_same_key x y)) [
      | inl e ↦ absurd (less_itself x (subst (λ (z : Scalar). key_cmp z x ≡ Less) (sym (same_is x y e)) l))
      | inr e ↦ e
    ]

pub none_there : (x : Scalar) (es : Entries) → AllBelow x es → is_some (get_entry x es) ≡ false
none_there x no_entries h = refl
none_there x (entry y d es) h = rw (not_same x y h.0) (none_there x es h.1)

-- ---- fields

abbrev pub joined_fields : Fields → Fields → Fields
joined_fields no_fields fs = fs
joined_fields (field n h gs) fs = field n h (joined_fields gs fs)

pub joined_no_fields : (fs : Fields) → joined_fields fs no_fields ≡ fs
joined_no_fields no_fields = refl
joined_no_fields (field n h fs) = ap (field n h) (joined_no_fields fs)

pub joined_more_fields : (gs : Fields) (n : ℕ) (h : Holding) (fs : Fields) → joined_fields (joined_fields gs (field n h no_fields)) fs ≡ joined_fields gs (field n h fs)
joined_more_fields no_fields n h fs = refl
joined_more_fields (field k g gs) n h fs = ap (field k g) (joined_more_fields gs n h fs)

-- each number is below this one
abbrev pub NumbersBelow : ℕ → Fields → Type 0
NumbersBelow n no_fields = Unit {0}
NumbersBelow n (field k h fs) = (k < n) × NumbersBelow n fs

pub numbers_next : (low n : ℕ) (h : Holding) (fs : Fields) → low ≤ n → NumbersBelow low fs → NumbersBelow (n + 1) (joined_fields fs (field n h no_fields))
numbers_next low n h no_fields l below = (omega arith, tt)
numbers_next low n h (field k g fs) l below = (omega (arith, below.0), numbers_next low n h fs l below.1)

greater : (n k : ℕ) → k < n → nat_cmp n k ≡ Greater
greater n k l = rw (le-ltb n k (omega arith), ne_eqb n k (λ e. omega arith)) refl

pub put_field_last : (low n : ℕ) (h : Holding) (fs : Fields) → low ≤ n → NumbersBelow low fs → put_field n h fs ≡ joined_fields fs (field n h no_fields)
put_field_last low n h no_fields l below = refl
put_field_last low n h (field k g fs) l below =
    rw (greater n k (omega (arith, below.0))) (ap (field k g) (put_field_last low n h fs l below.1))

-- ---- numbers that were there

eq_is : (n k : ℕ) → is_eq (nat_cmp n k) ≡ eqb n k
eq_is n k =
    elim (cases_lt n k) [
      | inl l ↦ rw (lt-ltb n k l, ne_eqb n k (λ e. omega arith)) refl
      | inr ge ↦ rw (le-ltb n k ge) (by_test (eqb n k))
    ]
  where
    by_test : (b : Bool) → is_eq (cond b Equal Greater) ≡ b
    by_test true = refl
    by_test false = refl

-- another number than the one that is put in
pub has_other : (k n : ℕ) (ns : List ℕ) → has k ns ≡ false → k ≢ n → has k (insert_key nat_cmp ns n) ≡ false
has_other k n [] free other = rw (eq_is k n, ne_eqb k n other) refl
has_other k n (x ∷ xs) free other =
    let both = parts (is_eq (nat_cmp k x)) (has k xs) free in
    by_order (nat_cmp n x) both (has_other k n xs both.1 other)
  where
    parts : (a b : Bool) → (a || b) ≡ false → (a ≡ false) × (b ≡ false)
    parts true b h = absurd (cc)
    parts false b h = (refl, h)

    by_order : (o : Ordering) → (is_eq (nat_cmp k x) ≡ false) × (has k xs ≡ false) → has k (insert_key nat_cmp xs n) ≡ false
        → has k (match_ordering o (n ∷ x ∷ xs) (x ∷ xs) (x ∷ insert_key nat_cmp xs n)) ≡ false
    by_order Less h later = rw (eq_is k n, ne_eqb k n other) free
    by_order Equal h later = free
    by_order Greater h later = rw (h.0) later
