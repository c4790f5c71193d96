-- Putting entries under keys keeps them entries of their kinds, with keys that rise.
use Rattle.std.proofs.Common.{◌≡◌, ℕ, ◌<◌, ◌≤◌, List, [], ◌∷◌, arith, refl, sym, ap, ◌∙◌, nat_cmp, Ordering, Less, Equal, Greater}
use Rattle.std.proofs.lemmas.Int.{ints}
use Rattle.std.specs.Prelude.{ℤ, Bool, true, false, fold}
use Rattle.std.specs.List.{AllByRecursion}
use Rattle.std.specs.Ordering.{int_cmp, bool_cmp, match_ordering, MatchOrdering}
use Rattle.std.specs.Cmp.{ranks}
use Rattle.pb_schema.specs.declared.types.Kind.{Kind}
use Rattle.pb_schema.specs.Scalar.{Scalar, int32, int64, uint32, uint64, boolean, text, bytes_cmp, key_cmp}
use Rattle.pb_schema.specs.Kinds.{IsOfKind}
use Rattle.pb_schema.specs.Types.{Types}
use Rattle.pb_value.specs.Data.{Datum, Entries, no_entries, entry, put_entry, levels_in_entry, entries_depth}
use Rattle.pb_value.specs.WellFormed.{IsBelow, KeysRise, IsDatum, AreEntries}

-- THE ORDER OF KEYS, TURNED

greater : (n k : ℕ) (o : Ordering) → MatchOrdering o (n < k) (n ≡ k) (k < n) → o ≡ Greater → k < n
greater n k Less r e = absurd (cc)
greater n k Equal r e = absurd (cc)
greater n k Greater r e = r

equal : (n k : ℕ) (o : Ordering) → MatchOrdering o (n < k) (n ≡ k) (k < n) → o ≡ Equal → n ≡ k
equal n k Less r e = absurd (cc)
equal n k Equal r e = r
equal n k Greater r e = absurd (cc)

is_less : (n k : ℕ) (o : Ordering) → MatchOrdering o (n < k) (n ≡ k) (k < n) → n < k → o ≡ Less
is_less n k Less r h = refl
is_less n k Equal r h = absurd (omega (arith, r, h))
is_less n k Greater r h = absurd (omega (arith, r, h))

is_equal : (n k : ℕ) (o : Ordering) → MatchOrdering o (n < k) (n ≡ k) (k < n) → n ≡ k → o ≡ Equal
is_equal n k Less r h = absurd (omega (arith, r, h))
is_equal n k Equal r h = refl
is_equal n k Greater r h = absurd (omega (arith, r, h))

nat_cmp-turned : (n k : ℕ) → nat_cmp n k ≡ Greater → nat_cmp k n ≡ Less
nat_cmp-turned n k e = is_less k n (nat_cmp k n) (ranks k n) (greater n k (nat_cmp n k) (ranks n k) e)

nat_cmp-turned_equal : (n k : ℕ) → nat_cmp n k ≡ Equal → nat_cmp k n ≡ Equal
nat_cmp-turned_equal n k e = is_equal k n (nat_cmp k n) (ranks k n) (sym (equal n k (nat_cmp n k) (ranks n k) e))

int_cmp-turned : (x y : ℤ) → int_cmp x y ≡ Greater → int_cmp y x ≡ Less
int_cmp-turned x y e = grind (arith, ints)

bool_cmp-turned : (x y : Bool) → bool_cmp x y ≡ Greater → bool_cmp y x ≡ Less
bool_cmp-turned true false e = refl
bool_cmp-turned true true e = absurd (cc)
bool_cmp-turned false true e = absurd (cc)
bool_cmp-turned false false e = absurd (cc)

bytes_cmp-turned : (xs ys : List ℕ) → bytes_cmp xs ys ≡ Greater → bytes_cmp ys xs ≡ Less
bytes_cmp-turned [] [] e = absurd (cc)
bytes_cmp-turned [] (y ∷ ys) e = absurd (cc)
bytes_cmp-turned (x ∷ xs) [] e = refl
bytes_cmp-turned (x ∷ xs) (y ∷ ys) e = by_first (nat_cmp x y) refl (bytes_cmp-turned xs ys) e
  where
    by_first : (o : Ordering) → nat_cmp x y ≡ o → (bytes_cmp xs ys ≡ Greater → bytes_cmp ys xs ≡ Less) → match_ordering o Less (bytes_cmp xs ys) Greater ≡ Greater → bytes_cmp (y ∷ ys) (x ∷ xs) ≡ Less
    by_first Less here later h = absurd (cc)
    by_first Equal here later h = ap (λ (o : Ordering). match_ordering o Less (bytes_cmp ys xs) Greater) (nat_cmp-turned_equal x y here) ∙ later h
    by_first Greater here later h = ap (λ (o : Ordering). match_ordering o Less (bytes_cmp ys xs) Greater) (nat_cmp-turned x y here)

pub key_cmp-turned : (x y : Scalar) → key_cmp x y ≡ Greater → key_cmp y x ≡ Less
key_cmp-turned (int32 x) (int32 y) e = int_cmp-turned x y e
key_cmp-turned (int64 x) (int64 y) e = int_cmp-turned x y e
key_cmp-turned (uint32 x) (uint32 y) e = nat_cmp-turned x y e
key_cmp-turned (uint64 x) (uint64 y) e = nat_cmp-turned x y e
key_cmp-turned (boolean x) (boolean y) e = bool_cmp-turned x y e
key_cmp-turned (text x) (text y) e = bytes_cmp-turned x y e
key_cmp-turned x y e = absurd (cc)

-- PUTTING AN ENTRY

-- a fact of a choice by an order, where the order is known
by_cmp : {A : Type 0} (P : A → Type 0) (o : Ordering) (x y z : A) → (o ≡ Less → P x) → (o ≡ Equal → P y) → (o ≡ Greater → P z) → P (match_ordering o x y z)
by_cmp P Less x y z a b c = a refl
by_cmp P Equal x y z a b c = b refl
by_cmp P Greater x y z a b c = c refl

IsBelow-put_entry : (x k : Scalar) (d : Datum) (es : Entries) → key_cmp x k ≡ Less → IsBelow x es → IsBelow x (put_entry k d es)
IsBelow-put_entry x k d no_entries a b = a
IsBelow-put_entry x k d (entry l e es) a b = by_cmp (IsBelow x) (key_cmp k l) _ _ _ (λ _. a) (λ _. b) (λ _. b)

pub KeysRise-put_entry : (k : Scalar) (d : Datum) (es : Entries) → KeysRise es → KeysRise (put_entry k d es)
KeysRise-put_entry k d no_entries h = (tt, tt)
KeysRise-put_entry k d (entry l e es) h =
    by_cmp KeysRise (key_cmp k l) _ _ _ (λ a. (a, h)) (λ _. h)
    (λ g. (IsBelow-put_entry l k d es (key_cmp-turned k l g) h.0, KeysRise-put_entry k d es h.1))

-- entries that are put into a map: their key and value are of the kinds, and the value nests this deep
pub record IsEntry (pool : Types) (key k : Kind) (top : ℕ) (e : Scalar × Datum) : Type 0 where
  pub first : IsOfKind key e.0
  pub second : IsDatum pool k e.1
  pub depth : levels_in_entry e.1 < top

-- what a map of such entries is
pub record IsMap (pool : Types) (key k : Kind) (top : ℕ) (es : Entries) : Type 0 where
  pub entries : AreEntries pool key k es
  pub rises : KeysRise es
  pub depth : entries_depth es ≤ top

AreEntries-put_entry : (pool : Types) (key k : Kind) (x : Scalar) (d : Datum) (es : Entries) → IsOfKind key x → IsDatum pool k d → AreEntries pool key k es → AreEntries pool key k (put_entry x d es)
AreEntries-put_entry pool key k x d no_entries a b h = (a, b, tt)
AreEntries-put_entry pool key k x d (entry y e es) a b h =
    by_cmp (AreEntries pool key k) (key_cmp x y) _ _ _ (λ _. (a, b, h)) (λ _. (h.0, b, h.2)) (λ _. (h.0, h.1, AreEntries-put_entry pool key k x d es a b h.2))

entries_depth-put_entry : (x : Scalar) (d : Datum) (es : Entries) (top : ℕ) → levels_in_entry d < top → entries_depth es ≤ top → entries_depth (put_entry x d es) ≤ top
entries_depth-put_entry x d no_entries top a b = omega arith
entries_depth-put_entry x d (entry y e es) top a b =
    by_cmp (λ fs. entries_depth fs ≤ top) (key_cmp x y) _ _ _ (λ _. omega arith) (λ _. omega arith)
    (λ _. let more = entries_depth-put_entry x d es top a (omega arith) in omega arith)

pub IsMap-put_entry : (pool : Types) (key k : Kind) (top : ℕ) (e : Scalar × Datum) (es : Entries) → IsEntry pool key k top e → IsMap pool key k top es → IsMap pool key k top (put_entry e.0 e.1 es)
IsMap-put_entry pool key k top e es a h = record {
  entries = AreEntries-put_entry pool key k e.0 e.1 es a.first a.second h.entries;
  rises = KeysRise-put_entry e.0 e.1 es h.rises;
  depth = entries_depth-put_entry e.0 e.1 es top a.depth h.depth;
}

pub IsMap-fold :
    (pool : Types) (key k : Kind) (top : ℕ) (xs : List (Scalar × Datum)) (es : Entries) → AllByRecursion (IsEntry pool key k top) xs → IsMap pool key k top es
    → IsMap pool key k top (fold (λ (ds : Entries) (d : Scalar × Datum). put_entry d.0 d.1 ds) es xs)
IsMap-fold pool key k top [] es h w = w
IsMap-fold pool key k top (x ∷ xs) es h w = IsMap-fold pool key k top xs (put_entry x.0 x.1 es) h.1 (IsMap-put_entry pool key k top x es h.0 w)

-- a map that holds an entry
abbrev pub HasEntry : Entries → Type 0
HasEntry no_entries = ⊥
HasEntry (entry x d es) = Unit {0}

pub HasEntry-put_entry : (x : Scalar) (d : Datum) (es : Entries) → HasEntry (put_entry x d es)
HasEntry-put_entry x d no_entries = tt
HasEntry-put_entry x d (entry y e es) = by_cmp HasEntry (key_cmp x y) _ _ _ (λ _. tt) (λ _. tt) (λ _. tt)

pub HasEntry-fold : (xs : List (Scalar × Datum)) (es : Entries) → HasEntry es → HasEntry (fold (λ (ds : Entries) (d : Scalar × Datum). put_entry d.0 d.1 ds) es xs)
HasEntry-fold [] es h = h
HasEntry-fold (x ∷ xs) es h = HasEntry-fold xs (put_entry x.0 x.1 es) (HasEntry-put_entry x.0 x.1 es)
