use Rattle.std.proofs.Common.{refl}
use Rattle.pb_wire.specs.Fault.{fault}
use Rattle.pb_wire.proofs.Longer.{text_longer}
use Rattle.pbtool_files.specs.SetFile.{no_text}
use Rattle.pbtool_files.proofs.set_file.judge_first.Goals as goal

pub returns-clause-refused : goal.returns-clause-refused
returns-clause-refused c = λ reading path more.
    let bad = rw c.in-Err-Fault.field-0-is at c.in-Err-Fault.ensures.refused in
    no_text refl
    (text_longer c.args.bytes.now more (fault c.in-Err-Fault.byte c.in-Err-Fault.path.items c.in-Err-Fault.cause) (c.is_cut.ensures.other c.if-is_cut.false) bad) refl
