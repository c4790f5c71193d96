use Rattle.std.proofs.Common.{◌≡◌, arith, reverse, subst}
use Rattle.pb_wire.specs.Fault.{fault}
use Rattle.pb_wire.specs.Grammar.{beyond}
use Rattle.pb_wire.specs.Reading.{IfRawFault}
use Rattle.pb_wire.specs.declared.fault.WireFault.{WireFault}
use Rattle.pb_wire.proofs.ReadingLemmas.{from_front}
use Rattle.pb_wire.proofs.reading.read_text.Goals as goal

pub returns-in-Err-Fault-records_at-clause-fault : goal.returns-in-Err-Fault-records_at-clause-fault
returns-in-Err-Fault-records_at-clause-fault c =
    let steps = c.records_at-2.new.steps.items in
    let bad = rw c.in-Err-Fault-records_at.field-0-is at c.in-Err-Fault-records_at.ensures.fault in
    let told = subst (λ (w : WireFault). IfRawFault c.of_longer.result (λ f. f ≡ beyond c.max_bytes-max_bytes.result (fault w.byte (reverse steps) w.cause)))
    c.in-Err-Fault-records_at.fault-is c.of_longer.ensures in
    from_front c.of_longer.result c.args.limits c.args.bytes.now steps c.max_bytes-max_bytes.result c.max_depth-2.result
    c.in-Err-Fault-records_at.fault (omega arith) c.max_bytes-max_bytes.ensures.same c.max_depth-2.ensures.same bad told
