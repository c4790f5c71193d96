-- A message's fields with one part changed: what a field holds, a list in it, or a map in it.
use Rattle.std.specs.Prelude.{ℕ, zero, suc}
use Rattle.std.specs.Ordering.{nat_cmp, match_ordering}
use Rattle.pb_value.specs.Data.{Datum, Datums, no_datums, datum, Entries, Holding, one, list, map, Fields, no_fields, field}

-- a list with the value at an index changed
abbrev pub in_nth : (Datum → Datum) → ℕ → Datums → Datums
in_nth change i no_datums = no_datums
in_nth change zero (datum d ds) = datum (change d) ds
in_nth change (suc i) (datum d ds) = datum d (in_nth change i ds)

-- fields with what the field of a number holds changed
abbrev pub in_field : (Holding → Holding) → ℕ → Fields → Fields
in_field change n no_fields = no_fields
in_field change n (field k h fs) = match_ordering (nat_cmp n k) (field k h (in_field change n fs)) (field k (change h) fs) (field k h (in_field change n fs))

abbrev pub in_list : (Datums → Datums) → Holding → Holding
in_list change (one d) = one d
in_list change (list ds) = list (change ds)
in_list change (map es) = map es

abbrev pub in_map : (Entries → Entries) → Holding → Holding
in_map change (one d) = one d
in_map change (list ds) = list ds
in_map change (map es) = map (change es)
