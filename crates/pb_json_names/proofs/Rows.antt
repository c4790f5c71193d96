-- Small cases, worked out by the definitions.
use Rattle.std.proofs.Common.{◌≡◌, ℕ, List, [], ◌∷◌, Some, None, refl}
use Rattle.std.specs.Prelude.{codes}
use Rattle.pb_wire.specs.Record.{Payload, Record, len, varint}
use Rattle.pb_schema.specs.Scalar.{text}
use Rattle.pb_value.specs.Data.{Datum, scalar, message, one, body, field, no_fields}
use Rattle.pb_json_names.specs.Name.{name_in, other_name}
use Rattle.pb_json_names.specs.Names.{last_given}

last_counts : last_given (((0, 1), codes "a") ∷ ((0, 2), codes "b") ∷ ((0, 1), codes "c") ∷ []) 0 1 ≡ Some (codes "c")
last_counts = refl

none_of_another : last_given (((0, 1), codes "a") ∷ []) 1 1 ≡ None
none_of_another = refl

-- ---- the name that a field's message gives: its declared name `display_name` and records that its type does not declare

abbrev record_of : ℕ → Payload → Record
record_of n p = record { number = n; payload = p }

abbrev a_field : List Record → Datum
a_field rs = message (body (field 1 (one (scalar (text (codes "display_name")))) no_fields) rs)

json_name_is_field_10 : name_in (a_field (record_of 10 (len (codes "label")) ∷ [])) ≡ other_name (codes "display_name") (codes "label")
json_name_is_field_10 = refl

no_other_record : name_in (a_field (record_of 9 (len (codes "label")) ∷ record_of 11 (len (codes "label")) ∷ [])) ≡ None
no_other_record = refl

no_number : name_in (a_field (record_of 10 (varint 7) ∷ [])) ≡ None
no_number = refl

last_record : name_in (a_field (record_of 10 (len (codes "a")) ∷ record_of 10 (len (codes "b")) ∷ [])) ≡ other_name (codes "display_name") (codes "b")
last_record = refl

not_empty : name_in (a_field (record_of 10 (len []) ∷ [])) ≡ None
not_empty = refl
