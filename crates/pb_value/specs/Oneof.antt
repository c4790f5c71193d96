-- Which member of a oneof is set, and the default of a kind (encoding guide, "Oneofs", "Default Values").
use Rattle.std.specs.Prelude.{ℕ, List, Bool, false, Option, Some, None, if◌then◌else◌}
use Rattle.pb_schema.specs.declared.types.Kind.{Kind}
use Rattle.pb_schema.specs.Types.{FieldView, field_numbered}
use Rattle.pb_schema.specs.Kinds.{message_of_kind, closed_enum, default_of}
use Rattle.pb_schema.specs.Oneofs.{is_member}
use Rattle.pb_value.specs.Data.{Datum, scalar, Fields, no_fields, field}

abbrev pub is_member_at : ℕ → Option FieldView → Bool
is_member_at o None = false
is_member_at o (Some f) = is_member o f.shape

-- the number of the first member that is set; of a well-formed message the only one
abbrev pub member_set : List FieldView → ℕ → Fields → Option ℕ
member_set all o no_fields = None
member_set all o (field n h fs) = if is_member_at o (field_numbered n all) then Some n else member_set all o fs

-- the default of a kind; a message and a closed enum have none
abbrev pub default_value : Kind → Option Datum
default_value k = of_type (message_of_kind k) (closed_enum k)
  where
    of_type : Option ℕ → Option ℕ → Option Datum
    of_type None None = Some (scalar (default_of k))
    of_type None (Some e) = None
    of_type (Some m) c = None
