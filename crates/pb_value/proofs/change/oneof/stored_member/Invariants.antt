use Rattle.std.proofs.Common.{◌≡◌}
use Rattle.pb_schema.specs.Types.{message_fields}
use Rattle.pb_value.specs.Oneof.{member_set}
use Rattle.pb_value.specs.View.{fields_view}
use Rattle.pb_value.proofs.change.oneof.stored_member.Given as goal

abbrev pub invariant-loop-stored : goal.invariant-loop-stored
invariant-loop-stored l =
    member_set (message_fields l.pool l.message_type.0) l.oneof (fields_view l.fields.entries) ≡ member_set (message_fields l.pool l.message_type.0) l.oneof (fields_view l.stored-iterator)
