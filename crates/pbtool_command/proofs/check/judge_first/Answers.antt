use Rattle.std.proofs.Common.{refl}
use Rattle.pb_wire.specs.Fault.{fault}
use Rattle.pb_wire.proofs.Longer.{text_longer}
use Rattle.pbtool_command.proofs.check.judge_first.Goals as goal

pub returns-else-is_cut-clause-refused : goal.returns-else-is_cut-clause-refused
returns-else-is_cut-clause-refused c = λ more.
    let f = fault c.in-Err-Fault.byte c.in-Err-Fault.path.items c.in-Err-Fault.cause in
    let bad = rw c.in-Err-Fault.field-0-is at c.in-Err-Fault.ensures.fault in
    (f, text_longer c.args.bytes.now more f (c.is_cut.ensures.other c.if-is_cut.false) bad, refl)
