-- The keys of a map from an index on, and lists that are laid over a buffer.
use Rattle.std.proofs.Common.{◌≡◌, ℕ, zero, suc, ◌+◌, ◌<◌, ◌≤◌, List, [], ◌∷◌, ◌++◌, length, drop, Option, Some, None, option_and_then, slice_set, arith, refl, sym, ap, ◌∙◌}
use Rattle.pb_schema.specs.Scalar.{Scalar}
use Rattle.pb_value.specs.Data.{Entries, no_entries}
use Rattle.pb_value.specs.View.{entries_view, key_view}
use Rattle.pb_value.specs.declared.body.MapKey.{MapKey}
use Rattle.pb_value.specs.declared.body.Value.{Value}
use Rattle.pb_place.specs.At.{Seen, whole, single, elements, pairs}
use Rattle.pb_c_message.specs.declared.keys.KeyCounts.{KeyCounts}
use Rattle.pb_c_message.specs.Keys.{entries_in, keys_in, keys_of, laid, laid_from}

-- the keys of entries from an index on
abbrev pub left : ℕ → List (MapKey × Value) → List Scalar
left i es = drop i (keys_of (entries_view es))

-- a key is next
pub left-next : (i : ℕ) (k : MapKey) (v : Value) (es : List (MapKey × Value)) → i ≤ 0 → left i ((k, v) ∷ es) ≡ key_view k ∷ left i es
left-next zero k v es h = refl
left-next (suc i) k v es h = absurd (omega (arith, h))

pub left-none : (i : ℕ) → left i [] ≡ []
left-none zero = refl
left-none (suc i) = refl

pub keys_count : (es : List (MapKey × Value)) → length (keys_of (entries_view es)) ≡ length es
keys_count [] = refl
keys_count (e ∷ es) = ap suc (keys_count es)

module _ {A : Type 0} where
  laid_empty : (xs : List A) → laid xs [] ≡ []
  laid_empty [] = refl
  laid_empty (x ∷ xs) = refl

  -- nothing is left to be laid
  pub laid_from-nothing : (i : ℕ) (buffer : List A) → laid_from i [] buffer ≡ buffer
  laid_from-nothing zero buffer = refl
  laid_from-nothing (suc i) [] = refl
  laid_from-nothing (suc i) (old ∷ buffer) = ap (λ l. old ∷ l) (laid_from-nothing i buffer)

  -- the buffer is full
  pub laid_from-full : (i : ℕ) (xs buffer : List A) → length buffer ≤ i → laid_from i xs buffer ≡ buffer
  laid_from-full zero xs [] h = laid_empty xs
  laid_from-full zero xs (old ∷ buffer) h = absurd (omega (arith, h))
  laid_from-full (suc i) xs [] h = refl
  laid_from-full (suc i) xs (old ∷ buffer) h = ap (λ l. old ∷ l) (laid_from-full i xs buffer (omega (arith, h)))

  -- one more is written
  pub laid_from-write : (i : ℕ) (x : A) (xs buffer : List A) → i < length buffer → laid_from i (x ∷ xs) buffer ≡ laid_from (suc i) xs (slice_set buffer i x)
  laid_from-write zero x xs [] h = absurd (omega (arith, h))
  laid_from-write zero x xs (old ∷ buffer) h = refl
  laid_from-write (suc i) x xs [] h = refl
  laid_from-write (suc i) x xs (old ∷ buffer) h = ap (λ l. old ∷ l) (laid_from-write i x xs buffer (omega (arith, h)))

  laid_both : (xs ys buffer : List A) → laid (xs ++ ys) buffer ≡ laid_from (length xs) ys (laid xs buffer)
  laid_both [] ys buffer = refl
  laid_both (x ∷ xs) ys [] = refl
  laid_both (x ∷ xs) ys (old ∷ buffer) = ap (λ l. x ∷ l) (laid_both xs ys buffer)

  laid_from-then : (i n : ℕ) (xs ys buffer : List A) → n ≡ i + length xs → laid_from i (xs ++ ys) buffer ≡ laid_from n ys (laid_from i xs buffer)
  laid_from-then zero n xs ys buffer e =
      let same : length xs ≡ n = omega (arith, e) in
      laid_both xs ys buffer ∙ ap (λ m. laid_from m ys (laid xs buffer)) same
  laid_from-then (suc i) zero xs ys buffer e = absurd (omega (arith, e))
  laid_from-then (suc i) (suc n) xs ys [] e = refl
  laid_from-then (suc i) (suc n) xs ys (old ∷ buffer) e = ap (λ l. old ∷ l) (laid_from-then i n xs ys buffer (omega (arith, e)))

  -- a list is laid where the one before it ends
  pub laid_from-both : (i : ℕ) (xs ys buffer : List A) → laid_from i (xs ++ ys) buffer ≡ laid_from (i + length xs) ys (laid_from i xs buffer)
  laid_from-both i xs ys buffer = laid_from-then i (i + length xs) xs ys buffer refl

-- what is asked of the entries that are there
pub keys_none : (i : ℕ) (x : Option Seen) → None ≡ option_and_then entries_in x → option_and_then (keys_in i) x ≡ None
keys_none i None is = refl
keys_none i (Some (whole v)) is = refl
keys_none i (Some (single d)) is = refl
keys_none i (Some (elements ds)) is = refl
keys_none i (Some (pairs es)) is = absurd cc

abbrev or_none : Option Entries → Entries
or_none None = no_entries
or_none (Some es) = es

pub keys_some : (i : ℕ) (x : Option Seen) (es : Entries) → Some es ≡ option_and_then entries_in x → option_and_then (keys_in i) x ≡ Some (drop i (keys_of es))
keys_some i None es is = absurd cc
keys_some i (Some (whole v)) es is = absurd cc
keys_some i (Some (single d)) es is = absurd cc
keys_some i (Some (elements ds)) es is = absurd cc
keys_some i (Some (pairs fs)) es is = ap (λ o. Some (drop i (keys_of (or_none o)))) (sym is)

abbrev counted_as : ℕ → ℕ → KeyCounts
counted_as k b = record { keys = k; bytes = b }

pub counts : {k l b n : ℕ} → k ≡ l → b ≡ n → counted_as k b ≡ counted_as l n
counts {k} {l} {b} {n} same also = ap (λ m. counted_as m b) same ∙ ap (counted_as l) also
