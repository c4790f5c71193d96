-- A tag is a varint of the parts of one.
use Rattle.pb_wire.specs.Fault.{TagFault}
use Rattle.pb_wire.proofs.scan.scan_tag.Goals as goal

pub returns-in-Ok : goal.returns-in-Ok
returns-in-Ok c = λ at. let told = c.in-Whole.ensures at in (told.0, c.in-Ok.ensures.whole _ _ told.1)

pub returns-in-Err : goal.returns-in-Err
returns-in-Err c =
    λ at.
    let told = c.in-Whole.ensures at in
    (c.in-Err.ensures.settled, λ innermost. c.in-Err.ensures.refused _ _ innermost told.1)

pub returns-in-Short : goal.returns-in-Short
returns-in-Short c = λ at innermost. TagFault.token (c.in-Short.ensures at)

pub returns-in-Fault : goal.returns-in-Fault
returns-in-Fault c = λ at. let told = c.in-Fault.ensures at in (told.0, λ innermost. TagFault.token told.1)
