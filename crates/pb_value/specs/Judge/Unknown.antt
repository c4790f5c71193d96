-- Why a message cannot hold some unknown records: the first cause, record by record.
use Rattle.std.specs.Prelude.{ℕ, ◌^◌, List, [], ◌∷◌, Bool, true, not, ◌&&◌, nat_lt, Option, None}
use Rattle.pb_wire.specs.Record.{Payload, varint, fixed64, len, group, fixed32, Group, no_more, more, Record}
use Rattle.pb_schema.specs.Types.{FieldView, Types}
use Rattle.pb_schema.specs.Closed.{counts}
use Rattle.pb_value.specs.Judge.Told.{or_else, unless}
use Rattle.pb_value.specs.declared.error.ValueError.{ValueError}
use Rattle.pb_value.specs.declared.error.ValueError.TheVariants.{NoSuchField, KnownAsUnknown}

abbrev pub is_number : ℕ → Bool
is_number k = nat_lt 0 k && nat_lt k (2 ^ 29)

-- each number in a group is one of the wire
abbrev mutual
  pub is_numbered : Payload → Bool
  is_numbered (varint n) = true
  is_numbered (fixed64 n) = true
  is_numbered (len s) = true
  is_numbered (group g) = is_numbered_group g
  is_numbered (fixed32 n) = true

  pub is_numbered_group : Group → Bool
  is_numbered_group no_more = true
  is_numbered_group (more k p g) = is_number k && is_numbered p && is_numbered_group g

abbrev pub record_cause : Types → List FieldView → Record → Option ValueError
record_cause pool fs r = or_else (unless (is_number r.number && is_numbered r.payload) NoSuchField) (unless (not (counts pool fs r)) KnownAsUnknown)

abbrev pub unknown_cause : Types → List FieldView → List Record → Option ValueError
unknown_cause pool fs [] = None
unknown_cause pool fs (r ∷ rs) = or_else (record_cause pool fs r) (unknown_cause pool fs rs)
