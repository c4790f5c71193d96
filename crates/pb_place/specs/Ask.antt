-- What is asked of what a message has at a place.
use Rattle.std.specs.Prelude.{ℕ, zero, suc, List, [], ◌∷◌, Option, Some, None}
use Rattle.pb_schema.specs.Scalar.{Scalar}
use Rattle.pb_value.specs.Data.{Datum, Datums, no_datums, datum, Entries, no_entries, entry, Fields, no_fields, field, fields_of}
use Rattle.pb_value.specs.Dynamic.{Dynamic}
use Rattle.pb_place.specs.At.{Seen, whole, single, elements, pairs}

abbrev pub message_in : Seen → Option Dynamic
message_in (whole v) = Some v
message_in (single d) = None
message_in (elements ds) = None
message_in (pairs es) = None

abbrev pub scalar_in : Seen → Option Datum
scalar_in (whole v) = None
scalar_in (single d) = Some d
scalar_in (elements ds) = None
scalar_in (pairs es) = None

abbrev pub datums_count : Datums → ℕ
datums_count no_datums = 0
datums_count (datum d ds) = suc (datums_count ds)

abbrev pub entries_count : Entries → ℕ
entries_count no_entries = 0
entries_count (entry x d es) = suc (entries_count es)

-- the length of a list or map
abbrev pub length_in : Seen → Option ℕ
length_in (whole v) = None
length_in (single d) = None
length_in (elements ds) = Some (datums_count ds)
length_in (pairs es) = Some (entries_count es)

abbrev pub nth_key : Entries → ℕ → Option Scalar
nth_key no_entries i = None
nth_key (entry x d es) zero = Some x
nth_key (entry x d es) (suc i) = nth_key es i

-- the key at an index, counted from 0, of a map
abbrev pub key_in : ℕ → Seen → Option Scalar
key_in i (whole v) = None
key_in i (single d) = None
key_in i (elements ds) = None
key_in i (pairs es) = nth_key es i

-- the numbers of fields, in order
abbrev pub numbers_of : Fields → List ℕ
numbers_of no_fields = []
numbers_of (field n h fs) = n ∷ numbers_of fs

-- a list over the first places of a buffer, as much of it as that holds
abbrev pub laid_over : List ℕ → List ℕ → List ℕ
laid_over [] buffer = buffer
laid_over (n ∷ ns) [] = []
laid_over (n ∷ ns) (old ∷ buffer) = n ∷ laid_over ns buffer

-- a buffer with the numbers of a message's fields over it
abbrev pub numbers_into : Option Dynamic → List ℕ → List ℕ
numbers_into None buffer = buffer
numbers_into (Some v) buffer = laid_over (numbers_of (fields_of v.body)) buffer
