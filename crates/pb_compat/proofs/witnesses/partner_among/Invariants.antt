use Rattle.std.proofs.Common.{◌≡◌, drop}
use Rattle.std.specs.Prelude.{find}
use Rattle.pb_schema.specs.Types.{message_fields}
use Rattle.pb_schema.specs.View.{field_view}
use Rattle.pb_compat.specs.Witness.{fields_at, may_be_beside}
use Rattle.pb_compat.proofs.witnesses.partner_among.Given as goal

abbrev pub invariant-loop-number : goal.invariant-loop-number
invariant-loop-number l =
    let fs = message_fields l.old l.old_type.0 in
    find (may_be_beside (field_view l.from)) (fields_at fs l.numbers) ≡ find (may_be_beside (field_view l.from)) (fields_at fs (drop l.number-index l.numbers))
