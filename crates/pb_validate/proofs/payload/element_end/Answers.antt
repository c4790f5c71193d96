use Rattle.std.proofs.Common.{ap, length, arith}
use Rattle.pb_wire.specs.Fault.{Fault, Place, Leads, VarintFault, FixedFault}
use Rattle.pb_wire.specs.Schema.{a_varint, four_bytes, eight_bytes}
use Rattle.pb_wire.specs.Sound.{IsElement}
use Rattle.pb_wire.specs.Scan.{NumberFault}
use Rattle.pb_wire.specs.declared.scan.Number.TheVariants as number
use Rattle.pb_validate.specs.Payloads.{IsNumberOfType}
use Rattle.pb_validate.proofs.JudgeLemmas.{ok_map, err_map}
use Rattle.pb_validate.proofs.payload.element_end.Goals as goal

varint_leads : {p q : Place} → IsNumberOfType 0 p q → Leads (IsElement a_varint) p q
varint_leads (number.Varint n, type, follows) = (follows.0, IsElement.varint_element follows.1.1, follows.2)
varint_leads (number.I64 n, type, follows) = absurd (omega (arith, type))
varint_leads (number.I32 n, type, follows) = absurd (omega (arith, type))

eight_lead : {p q : Place} → IsNumberOfType 1 p q → Leads (IsElement eight_bytes) p q
eight_lead (number.Varint n, type, follows) = absurd (omega (arith, type))
eight_lead (number.I64 n, type, follows) = (follows.0, IsElement.eight_element (ap length follows.1.1), follows.2)
eight_lead (number.I32 n, type, follows) = absurd (omega (arith, type))

four_lead : {p q : Place} → IsNumberOfType 5 p q → Leads (IsElement four_bytes) p q
four_lead (number.Varint n, type, follows) = absurd (omega (arith, type))
four_lead (number.I64 n, type, follows) = absurd (omega (arith, type))
four_lead (number.I32 n, type, follows) = (follows.0, IsElement.four_element (ap length follows.1.1), follows.2)

varint_bad : {p : Place} {f : Fault} → NumberFault 0 p f → VarintFault p f
varint_bad (NumberFault.a_varint e h) = h
varint_bad (NumberFault.eight_bytes e h) = absurd (omega (arith, e))
varint_bad (NumberFault.four_bytes e h) = absurd (omega (arith, e))

eight_bad : {p : Place} {f : Fault} → NumberFault 1 p f → FixedFault 8 p f
eight_bad (NumberFault.a_varint e h) = absurd (omega (arith, e))
eight_bad (NumberFault.eight_bytes e h) = h
eight_bad (NumberFault.four_bytes e h) = absurd (omega (arith, e))

four_bad : {p : Place} {f : Fault} → NumberFault 5 p f → FixedFault 4 p f
four_bad (NumberFault.a_varint e h) = absurd (omega (arith, e))
four_bad (NumberFault.eight_bytes e h) = absurd (omega (arith, e))
four_bad (NumberFault.four_bytes e h) = h

pub returns-in-Varint-clause-ok : goal.returns-in-Varint-clause-ok
returns-in-Varint-clause-ok c = rw c.in-Varint.is (ok_map c.number_end.result _ _ (λ end h. varint_leads h) c.number_end.ensures.ok)

pub returns-in-Varint-clause-fault : goal.returns-in-Varint-clause-fault
returns-in-Varint-clause-fault c = rw c.in-Varint.is (err_map c.number_end.result _ _ (λ e h. varint_bad h) c.number_end.ensures.fault)

pub returns-in-FourBytes-clause-ok : goal.returns-in-FourBytes-clause-ok
returns-in-FourBytes-clause-ok c =
    rw c.in-FourBytes.is (ok_map c.number_end-in-FourBytes.result _ _ (λ end h. four_lead h) c.number_end-in-FourBytes.ensures.ok)

pub returns-in-FourBytes-clause-fault : goal.returns-in-FourBytes-clause-fault
returns-in-FourBytes-clause-fault c =
    rw c.in-FourBytes.is (err_map c.number_end-in-FourBytes.result _ _ (λ e h. four_bad h) c.number_end-in-FourBytes.ensures.fault)

pub returns-in-EightBytes-clause-ok : goal.returns-in-EightBytes-clause-ok
returns-in-EightBytes-clause-ok c =
    rw c.in-EightBytes.is (ok_map c.number_end-in-EightBytes.result _ _ (λ end h. eight_lead h) c.number_end-in-EightBytes.ensures.ok)

pub returns-in-EightBytes-clause-fault : goal.returns-in-EightBytes-clause-fault
returns-in-EightBytes-clause-fault c =
    rw c.in-EightBytes.is (err_map c.number_end-in-EightBytes.result _ _ (λ e h. eight_bad h) c.number_end-in-EightBytes.ensures.fault)
