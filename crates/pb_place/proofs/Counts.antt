-- How many parts there are, and numbers that are laid over a buffer.
use Rattle.std.proofs.Common.{◌≡◌, ℕ, zero, suc, ◌<◌, ◌≤◌, List, [], ◌∷◌, length, slice_set, arith, refl, ap}
use Rattle.pb_value.specs.View.{values_view, entries_view, fields_view}
use Rattle.pb_value.specs.declared.body.Content.{Content}
use Rattle.pb_value.specs.declared.body.MapKey.{MapKey}
use Rattle.pb_value.specs.declared.body.Value.{Value}
use Rattle.pb_place.specs.Ask.{datums_count, entries_count, numbers_of, laid_over}

pub datums_count-values : (vs : List Value) → datums_count (values_view vs) ≡ length vs
datums_count-values [] = refl
datums_count-values (v ∷ vs) = ap suc (datums_count-values vs)

pub entries_count-entries : (es : List (MapKey × Value)) → entries_count (entries_view es) ≡ length es
entries_count-entries [] = refl
entries_count-entries (e ∷ es) = ap suc (entries_count-entries es)

pub numbers_count : (fs : List (ℕ × Content)) → length (numbers_of (fields_view fs)) ≡ length fs
numbers_count [] = refl
numbers_count (f ∷ fs) = ap suc (numbers_count fs)

-- a buffer with a list laid over it from a place on
abbrev pub laid_from : ℕ → List ℕ → List ℕ → List ℕ
laid_from zero ns buffer = laid_over ns buffer
laid_from (suc i) ns [] = []
laid_from (suc i) ns (old ∷ buffer) = old ∷ laid_from i ns buffer

laid_none : (buffer : List ℕ) → laid_over [] buffer ≡ buffer
laid_none buffer = refl

laid_empty : (ns : List ℕ) → laid_over ns [] ≡ []
laid_empty [] = refl
laid_empty (n ∷ ns) = refl

-- nothing is left to be laid
pub laid_from-nothing : (i : ℕ) (buffer : List ℕ) → laid_from i [] buffer ≡ buffer
laid_from-nothing zero buffer = refl
laid_from-nothing (suc i) [] = refl
laid_from-nothing (suc i) (old ∷ buffer) = ap (λ l. old ∷ l) (laid_from-nothing i buffer)

-- the buffer is full
pub laid_from-full : (i : ℕ) (ns buffer : List ℕ) → length buffer ≤ i → laid_from i ns buffer ≡ buffer
laid_from-full zero ns [] h = laid_empty ns
laid_from-full zero ns (old ∷ buffer) h = absurd (omega (arith, h))
laid_from-full (suc i) ns [] h = refl
laid_from-full (suc i) ns (old ∷ buffer) h = ap (λ l. old ∷ l) (laid_from-full i ns buffer (omega (arith, h)))

-- one more is written
pub laid_from-write : (i n : ℕ) (ns buffer : List ℕ) → i < length buffer → laid_from i (n ∷ ns) buffer ≡ laid_from (suc i) ns (slice_set buffer i n)
laid_from-write zero n ns [] h = absurd (omega (arith, h))
laid_from-write zero n ns (old ∷ buffer) h = refl
laid_from-write (suc i) n ns [] h = refl
laid_from-write (suc i) n ns (old ∷ buffer) h = ap (λ l. old ∷ l) (laid_from-write i n ns buffer (omega (arith, h)))
