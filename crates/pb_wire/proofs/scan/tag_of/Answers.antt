-- Why a whole tag is refused.
use Rattle.std.proofs.Common.{refl, arith}
use Rattle.pb_wire.specs.Fault.{TagFault}
use Rattle.pb_wire.proofs.scan.tag_of.Goals as goal

pub returns-in_default-clause-refused : goal.returns-in_default-clause-refused
returns-in_default-clause-refused c = λ p q innermost reads. TagFault.too_large reads (omega (arith, c.in_default.ensures)) refl

pub returns-then-number-eq0-clause-refused : goal.returns-then-number-eq0-clause-refused
returns-then-number-eq0-clause-refused c = λ p q innermost reads. TagFault.number_zero reads (omega (arith, c.in-Ok.ensures)) refl

pub returns-then-wire_type-gt5-clause-refused : goal.returns-then-wire_type-gt5-clause-refused
returns-then-wire_type-gt5-clause-refused c =
    λ p q innermost reads. TagFault.bad_type reads (omega (arith, c.in-Ok.ensures)) (omega (arith, c.in-Ok.ensures)) (omega (arith, c.in-Ok.ensures)) refl
