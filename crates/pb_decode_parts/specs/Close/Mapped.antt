-- What a run of map entries makes of the part that their map is in.
use Rattle.std.specs.Prelude.{ℕ, List, [], ◌∷◌, map}
use Rattle.std.specs.declared.cmp.Ordering.{Ordering}
use Rattle.std.specs.BTreeMap.{insert_entry}
use Rattle.pb_schema.specs.Scalar.{Scalar}
use Rattle.pb_value.specs.Data.{Datum, Entries, put_entry, Fields, fields_of, get_field}
use Rattle.pb_value.specs.Change.{insert_at, with_fields, entries_of, FitsKeys}
use Rattle.pb_value.specs.WellFormed.{RisesFrom}
use Rattle.pb_value.specs.View.{key_view, value_view}
use Rattle.pb_value.specs.declared.body.MapKey.{MapKey}
use Rattle.pb_value.specs.declared.body.Value.{Value}
use Rattle.pb_decode_parts.specs.Open.Parents.{Part, message_part, entry_part, group_part}

-- the keys and values of entries
abbrev pub pairs_view : List (MapKey × Value) → List (Scalar × Datum)
pairs_view es = map (λ e. (key_view e.0, value_view e.1)) es

-- each of some entries in turn, under its key
abbrev pub put_pairs : List (Scalar × Datum) → Entries → Entries
put_pairs [] es = es
put_pairs (x ∷ xs) es = put_pairs xs (put_entry x.0 x.1 es)

-- each key is of one kind with those that are there when its turn comes
abbrev pub FitInTurn : List (Scalar × Datum) → Entries → Type 0
FitInTurn [] es = Unit {0}
FitInTurn (x ∷ xs) es = FitsKeys x.0 es × FitInTurn xs (put_entry x.0 x.1 es)

-- entries put among others, in any order of keys
abbrev pub insert_in_turn : {K X : Type 0} → (K → K → Ordering) → List (K × X) → List (K × X) → List (K × X)
insert_in_turn R [] es = es
insert_in_turn R (x ∷ xs) es = insert_in_turn R xs (insert_entry R es x.0 x.1)

-- the same in the map of number n
abbrev pub insert_pairs : ℕ → List (Scalar × Datum) → Fields → Fields
insert_pairs n [] fs = fs
insert_pairs n (x ∷ xs) fs = insert_pairs n xs (insert_at n x.0 x.1 fs)

-- an entry in the map of number n of a part: messages alone have maps
abbrev pub put_mapped : ℕ → Scalar × Datum → Part → Part
put_mapped n x (message_part m v) = message_part m (with_fields v (insert_at n x.0 x.1 (fields_of v)))
put_mapped n x (entry_part key k y d) = entry_part key k y d
put_mapped n x (group_part us) = group_part us

-- each of some entries in turn
abbrev pub put_all_mapped : ℕ → List (Scalar × Datum) → Part → Part
put_all_mapped n [] p = p
put_all_mapped n (x ∷ xs) p = put_all_mapped n xs (put_mapped n x p)

-- the key of an entry is of one kind with those that are in the map of number n
abbrev pub FitsMapped : ℕ → Scalar → Part → Type 0
FitsMapped n x (message_part m v) = FitsKeys x (entries_of (get_field n (fields_of v)))
FitsMapped n x (entry_part key k y d) = Unit {0}
FitsMapped n x (group_part us) = Unit {0}

-- and so is each of some entries in turn
abbrev pub FitMapped : ℕ → List (Scalar × Datum) → Part → Type 0
FitMapped n [] p = Unit {0}
FitMapped n (x ∷ xs) p = FitsMapped n x.0 p × FitMapped n xs (put_mapped n x p)

-- the fields of a message rise
abbrev pub RisesIn : Part → Type 0
RisesIn (message_part m v) = RisesFrom 0 (fields_of v)
RisesIn (entry_part key k y d) = Unit {0}
RisesIn (group_part us) = Unit {0}
