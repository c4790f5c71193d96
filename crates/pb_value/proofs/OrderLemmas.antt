-- Fields and keys of maps rise.
use Rattle.std.proofs.Common.{◌≡◌, ℕ, ◌+◌, ◌<◌, ◌≤◌, List, [], ◌∷◌, refl, sym, ◌∙◌, arith, nat_cmp, Ordering, Less, Equal, Greater}
use Rattle.std.specs.Prelude.{string_bytes}
use Rattle.std.specs.List.{AllByRecursion}
use Rattle.std.specs.List.Sorted.{IsStrictlySortedBy}
use Rattle.std.specs.Map.{keys_of}
use Rattle.std.specs.Ordering.{match_ordering, MatchOrdering, ordering_then}
use Rattle.std.specs.Cmp.{ranks}
use Rattle.std.specs.Cmp.Lexicographic.{slice_cmp}
use Rattle.pb_schema.specs.declared.types.Kind.{Kind}
use Rattle.pb_schema.specs.declared.types.Kind.TheVariants as kind
use Rattle.pb_schema.specs.Types.{Types}
use Rattle.pb_schema.specs.Scalar.{Scalar, int32, int64, uint32, uint64, boolean, float, double, enum, text, bytes, bytes_cmp, key_cmp}
use Rattle.pb_schema.specs.Kinds.{IsOfKind}
use Rattle.pb_value.specs.WellFormed.{RisesFrom, KeysRise, AreEntries}
use Rattle.pb_value.specs.View.{key_view, entries_view, fields_view}
use Rattle.pb_value.specs.KeyOrder.{map_key_cmp}
use Rattle.pb_value.specs.declared.body.MapKey.{MapKey}
use Rattle.pb_value.specs.declared.body.MapKey.TheVariants as map_key
use Rattle.pb_value.specs.declared.body.Value.{Value}
use Rattle.pb_value.specs.declared.body.Content.{Content}

-- a number for each form of a scalar
form : Scalar → ℕ
form (int32 z) = 0
form (int64 z) = 1
form (uint32 n) = 2
form (uint64 n) = 3
form (boolean b) = 4
form (float n) = 5
form (double n) = 6
form (enum z) = 7
form (text s) = 8
form (bytes s) = 9

form_of : Kind → ℕ
form_of kind.Int32 = 0
form_of kind.Int64 = 1
form_of kind.Uint32 = 2
form_of kind.Uint64 = 3
form_of kind.Sint32 = 0
form_of kind.Sint64 = 1
form_of kind.Bool = 4
form_of (kind.Enum e) = 7
form_of kind.Fixed64 = 3
form_of kind.Sfixed64 = 1
form_of kind.Double = 6
form_of kind.Fixed32 = 2
form_of kind.Sfixed32 = 0
form_of kind.Float = 5
form_of kind.Text = 8
form_of kind.Bytes = 9
form_of (kind.Message m) = 10
form_of (kind.Group m) = 10
form_of (kind.ClosedEnum e) = 7

form-IsOfKind : (k : Kind) (x : Scalar) → IsOfKind k x → form x ≡ form_of k
unfolding form form_of
form-IsOfKind kind.Int32 (int32 z) h = refl
form-IsOfKind kind.Int64 (int64 z) h = refl
form-IsOfKind kind.Uint32 (uint32 n) h = refl
form-IsOfKind kind.Uint64 (uint64 n) h = refl
form-IsOfKind kind.Sint32 (int32 z) h = refl
form-IsOfKind kind.Sint64 (int64 z) h = refl
form-IsOfKind kind.Bool (boolean b) h = refl
form-IsOfKind (kind.Enum e) (enum z) h = refl
form-IsOfKind (kind.ClosedEnum e) (enum z) h = refl
form-IsOfKind kind.Fixed64 (uint64 n) h = refl
form-IsOfKind kind.Sfixed64 (int64 z) h = refl
form-IsOfKind kind.Double (double n) h = refl
form-IsOfKind kind.Fixed32 (uint32 n) h = refl
form-IsOfKind kind.Sfixed32 (int32 z) h = refl
form-IsOfKind kind.Float (float n) h = refl
form-IsOfKind kind.Text (text s) h = refl
form-IsOfKind kind.Bytes (bytes s) h = refl
form-IsOfKind k x h = absurd h

then_by : (o p q : Ordering) → p ≡ q → ordering_then o p ≡ match_ordering o Less q Greater
then_by Less p q e = refl
then_by Equal p q e = e
then_by Greater p q e = refl

pub slice_cmp-bytes_cmp : (xs ys : List ℕ) → slice_cmp nat_cmp xs ys ≡ bytes_cmp xs ys
slice_cmp-bytes_cmp [] [] = refl
slice_cmp-bytes_cmp [] (y ∷ ys) = refl
slice_cmp-bytes_cmp (x ∷ xs) [] = refl
slice_cmp-bytes_cmp (x ∷ xs) (y ∷ ys) = then_by (nat_cmp x y) (slice_cmp nat_cmp xs ys) (bytes_cmp xs ys) (slice_cmp-bytes_cmp xs ys)

same_form : (a b : MapKey) → form (key_view a) ≡ form (key_view b) → map_key_cmp a b ≡ key_cmp (key_view a) (key_view b)
unfolding form
same_form (map_key.I32 x) (map_key.I32 y) h = refl
same_form (map_key.I64 x) (map_key.I64 y) h = refl
same_form (map_key.U32 x) (map_key.U32 y) h = refl
same_form (map_key.U64 x) (map_key.U64 y) h = refl
same_form (map_key.Bool x) (map_key.Bool y) h = refl
same_form (map_key.Text x) (map_key.Text y) h = slice_cmp-bytes_cmp (string_bytes x) (string_bytes y)
same_form a b h = absurd (omega (arith, h))

pub map_key_cmp-key_cmp : (k : Kind) (a b : MapKey) → IsOfKind k (key_view a) → IsOfKind k (key_view b) → map_key_cmp a b ≡ key_cmp (key_view a) (key_view b)
map_key_cmp-key_cmp k a b h g = same_form a b (form-IsOfKind k (key_view a) h ∙ sym (form-IsOfKind k (key_view b) g))

-- the keys of a map's entries rise
pub KeysRise-sorted :
    (pool : Types) (key k : Kind) (es : List (MapKey × Value)) → AreEntries pool key k (entries_view es) → IsStrictlySortedBy map_key_cmp (keys_of es)
    → KeysRise (entries_view es)
unfolding IsStrictlySortedBy
KeysRise-sorted pool key k [] g h = tt
KeysRise-sorted pool key k (e ∷ []) g h = (tt, tt)
KeysRise-sorted pool key k (e ∷ f ∷ es) g h =
    (sym (map_key_cmp-key_cmp key e.0 f.0 g.0 g.2.0) ∙ h.0.0, KeysRise-sorted pool key k (f ∷ es) g.2 h.1)

less : (o : Ordering) (n k : ℕ) → MatchOrdering o (n < k) (n ≡ k) (k < n) → o ≡ Less → n < k
less Less n k h e = h
less Equal n k h e = absurd (cc)
less Greater n k h e = absurd (cc)

above : (n : ℕ) (ks : List ℕ) → AllByRecursion (λ k. nat_cmp n k ≡ Less) ks → AllByRecursion (λ k. n + 1 ≤ k) ks
above n [] h = tt
above n (k ∷ ks) h = let b : n < k = less (nat_cmp n k) n k (ranks n k) h.0 in (omega arith, above n ks h.1)

rises : (n : ℕ) (fs : List (ℕ × Content)) → AllByRecursion (λ k. n ≤ k) (keys_of fs) → IsStrictlySortedBy nat_cmp (keys_of fs) → RisesFrom n (fields_view fs)
unfolding IsStrictlySortedBy
rises n [] low h = tt
rises n (f ∷ fs) low h = (low.0, rises (f.0 + 1) fs (above f.0 (keys_of fs) h.0) h.1)

at_least_0 : (ks : List ℕ) → AllByRecursion (λ k. 0 ≤ k) ks
at_least_0 [] = tt
at_least_0 (k ∷ ks) = (omega arith, at_least_0 ks)

-- the fields of a body rise
pub RisesFrom-sorted : (fs : List (ℕ × Content)) → IsStrictlySortedBy nat_cmp (keys_of fs) → RisesFrom 0 (fields_view fs)
RisesFrom-sorted fs h = rises 0 fs (at_least_0 (keys_of fs)) h
