use Rattle.std.proofs.Common.{refl}
use Rattle.std.proofs.Output.{has_written_append}
use Rattle.pb_compat.proofs.report.Report.write_field.Goals as goal

pub returns : goal.returns
returns g c = λ plain ok.
    let head = rw (c.message_name.ensures, c.as_str.ensures.value, c.word.ensures) at c.in_ok-write_head.ensures in
    let wrote = head plain refl in
    has_written_append _ _ _ _ _ _ wrote (c.write_change.ensures wrote.plain ok)
