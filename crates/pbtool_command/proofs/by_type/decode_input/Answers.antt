use Rattle.std.proofs.Common.{inr, refl}
use Rattle.pb_wire.specs.Fault.{fault}
use Rattle.pbtool_command.proofs.by_type.decode_input.Goals as goal

pub returns-in-Err-Fault-clause-refused : goal.returns-in-Err-Fault-clause-refused
returns-in-Err-Fault-clause-refused g c =
    let told = rw c.in-Err-Fault.field-0-is at c.in-Err-Fault.ensures.fault in
    inr (fault c.in-Err-Fault.byte c.in-Err-Fault.path.items c.in-Err-Fault.cause, (λ bytes steady is. (bytes, refl, rw is at told)), refl)
