use Rattle.std.proofs.Common.{◌≡◌, arith, reverse, subst}
use Rattle.pb_wire.specs.Fault.{fault}
use Rattle.pb_wire.specs.Grammar.{beyond}
use Rattle.pb_wire.specs.Reading.{IfRawFault}
use Rattle.pb_wire.specs.declared.fault.WireFault.{WireFault}
use Rattle.pb_wire.proofs.ReadingLemmas.{from_front}
use Rattle.pb_wire.proofs.judging.judge_text.Goals as goal

pub returns-in-Err-Fault-records_end-clause-fault : goal.returns-in-Err-Fault-records_end-clause-fault
returns-in-Err-Fault-records_end-clause-fault c =
    let steps = c.records_end-2.new.steps.items in
    let bad = rw c.in-Err-Fault-records_end.field-0-is at c.in-Err-Fault-records_end.ensures.fault in
    let told = subst (λ (w : WireFault). IfRawFault c.of_longer.result (λ f. f ≡ beyond c.max_bytes-max_bytes.result (fault w.byte (reverse steps) w.cause)))
    c.in-Err-Fault-records_end.fault-is c.of_longer.ensures in
    from_front c.of_longer.result c.args.limits c.args.bytes.now steps c.max_bytes-max_bytes.result c.max_depth-2.result
    c.in-Err-Fault-records_end.fault (omega arith) c.max_bytes-max_bytes.ensures.same c.max_depth-2.ensures.same bad told
