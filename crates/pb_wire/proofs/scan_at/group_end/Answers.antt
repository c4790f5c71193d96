-- The last tag of a group where none is open, or another one.
use Rattle.std.proofs.Common.{refl}
use Rattle.pb_wire.specs.Fault.{TagFault}
use Rattle.pb_wire.proofs.scan_at.group_end.Goals as goal

pub returns-in-Some-2-clause-refused : goal.returns-in-Some-2-clause-refused
returns-in-Some-2-clause-refused c = λ p q tag. TagFault.wrong_end tag c.in-Some.is c.if-open-number.false refl

pub returns-in-None-clause-refused : goal.returns-in-None-clause-refused
returns-in-None-clause-refused c = λ p q tag. TagFault.stray_end tag c.in-None.is refl
