-- The names of the causes of refused changes.
use Rattle.std.specs.Prelude.{ℕ, List, codes}
use Rattle.pb_value.specs.ErrorName.{name_of}
use Rattle.pb_place.specs.declared.error.ChangeError.{ChangeError}
use Rattle.pb_place.specs.declared.error.ChangeError.TheVariants.{Absent, Refused}

abbrev pub error_name : ChangeError → List ℕ
error_name Absent = codes "Absent"
error_name (Refused e) = name_of e
