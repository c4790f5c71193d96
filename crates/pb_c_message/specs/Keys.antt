-- The keys of a map, from one on, as C is given them.
use Rattle.std.specs.Prelude.{◌≡◌, ℕ, zero, suc, List, [], ◌∷◌, length, drop, map, Option, Some, None}
use Rattle.std.specs.List.{flat_map}
use Rattle.pb_schema.specs.Scalar.{Scalar}
use Rattle.pb_value.specs.Data.{Entries, no_entries, entry}
use Rattle.pb_place.specs.At.{Seen, whole, single, elements, pairs}
use Rattle.pb_c_message.specs.Plain.{scalar_bytes, scalar_plain}
use Rattle.pb_c_message.specs.declared.value.PlainValue.{PlainValue}
use Rattle.pb_c_message.specs.declared.keys.KeyCounts.{KeyCounts}

-- the entries of a map
abbrev pub entries_in : Seen → Option Entries
entries_in (whole v) = None
entries_in (single d) = None
entries_in (elements ds) = None
entries_in (pairs es) = Some es

-- the keys of entries, in their order
abbrev pub keys_of : Entries → List Scalar
keys_of no_entries = []
keys_of (entry x d es) = x ∷ keys_of es

-- the keys of entries from an index on
abbrev pub keys_from : ℕ → Entries → List Scalar
keys_from i es = drop i (keys_of es)

-- the keys of a map from an index on
abbrev pub keys_in : ℕ → Seen → Option (List Scalar)
keys_in i (whole v) = None
keys_in i (single d) = None
keys_in i (elements ds) = None
keys_in i (pairs es) = Some (keys_from i es)

-- the bytes of those keys that are strings, one after another
abbrev pub strings_of : List Scalar → List ℕ
strings_of xs = flat_map scalar_bytes xs

-- a list over the first places of a buffer, as much of it as that holds
abbrev pub laid : {A : Type 0} → List A → List A → List A
laid [] buffer = buffer
laid (x ∷ xs) [] = []
laid (x ∷ xs) (old ∷ buffer) = x ∷ laid xs buffer

-- a list over the places of a buffer from an index on, as much of it as that holds
abbrev pub laid_from : {A : Type 0} → ℕ → List A → List A → List A
laid_from zero xs buffer = laid xs buffer
laid_from (suc i) xs [] = []
laid_from (suc i) xs (old ∷ buffer) = old ∷ laid_from i xs buffer

-- The keys are written to one buffer and their strings to another, as far as they fit, and it is reported how many there are of both.
pub record ReportsKeys (xs : List Scalar) (old new : List PlainValue) (out_old out_new : List ℕ) (counts : KeyCounts) : Type 0 where
  pub keys : new ≡ laid (map scalar_plain xs) old
  pub strings : out_new ≡ laid (strings_of xs) out_old
  pub counted : counts ≡ record { keys = length xs; bytes = length (strings_of xs) }
