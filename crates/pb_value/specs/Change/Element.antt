-- A message's fields with another element in a list, or with one less.
use Rattle.std.specs.Prelude.{ℕ, zero, suc, Bool, true, false, Option, Some, None, if◌then◌else◌}
use Rattle.pb_value.specs.Data.{Datum, Datums, no_datums, datum, Holding, one, list, map, Fields, get_field, drop_field}
use Rattle.pb_value.specs.Change.Part.{in_nth, in_list, in_field}

-- the elements without the one at an index
abbrev pub drop_nth : ℕ → Datums → Datums
drop_nth i no_datums = no_datums
drop_nth zero (datum d ds) = ds
drop_nth (suc i) (datum d ds) = datum d (drop_nth i ds)

abbrev pub is_empty_list : Holding → Bool
is_empty_list (one d) = false
is_empty_list (list no_datums) = true
is_empty_list (list (datum d ds)) = false
is_empty_list (map es) = false

abbrev pub holds_empty_list : Option Holding → Bool
holds_empty_list None = false
holds_empty_list (Some h) = is_empty_list h

-- the fields without that of number n, where it holds an empty list
abbrev pub drop_empty_list : ℕ → Fields → Fields
drop_empty_list n fs = if holds_empty_list (get_field n fs) then drop_field n fs else fs

-- the elements with this value in place of the one at an index
abbrev pub put_datum : ℕ → Datum → Datums → Datums
put_datum i d ds = in_nth (λ e. d) i ds

-- the same of the list of number n
abbrev pub put_nth : ℕ → ℕ → Datum → Fields → Fields
put_nth n i d fs = in_field (in_list (put_datum i d)) n fs

-- the fields without the element at an index of the list of number n, and without that list where no element is left
abbrev pub take_nth : ℕ → ℕ → Fields → Fields
take_nth n i fs = drop_empty_list n (in_field (in_list (drop_nth i)) n fs)
