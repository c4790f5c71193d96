use Rattle.std.proofs.Common.{◌≡◌, arith, reverse, subst}
use Rattle.pb_wire.specs.Fault.{fault}
use Rattle.pb_wire.specs.Grammar.{beyond}
use Rattle.pb_wire.specs.declared.fault.WireFault.{WireFault}
use Rattle.pb_schema.specs.Context.{a_message, schema_of}
use Rattle.pb_validate.specs.Judging.{IsFault}
use Rattle.pb_validate.proofs.JudgeLemmas.{some_front, from_front}
use Rattle.pb_validate.proofs.judging.find_fault.Goals as goal

pub returns-in-Err-Memory-records_end-clause-fault : goal.returns-in-Err-Memory-records_end-clause-fault
returns-in-Err-Memory-records_end-clause-fault c =
    let some = rw c.in-Err-Memory-records_end.field-0-is at c.in-Err-Memory-records_end.ensures.fault in
    some_front (schema_of c.args.pool.now) (a_message c.args.message_type.0) c.args.limits c.args.bytes.now c.max_bytes-max_bytes.result c.max_depth.result
    (omega arith) c.max_bytes-max_bytes.ensures.same c.max_depth.ensures.same some

pub returns-in-Err-Fault-records_end-clause-fault : goal.returns-in-Err-Fault-records_end-clause-fault
returns-in-Err-Fault-records_end-clause-fault c =
    let steps = c.records_end-2.new.steps.items in
    let bad = rw c.in-Err-Fault-records_end.field-0-is at c.in-Err-Fault-records_end.ensures.fault in
    let reported = subst (λ (w : WireFault). IsFault c.of_longer.result (λ f. f ≡ beyond c.max_bytes-max_bytes.result (fault w.byte (reverse steps) w.cause)))
    c.in-Err-Fault-records_end.fault-is c.of_longer.ensures in
    from_front (schema_of c.args.pool.now) (a_message c.args.message_type.0) c.args.limits c.args.bytes.now c.of_longer.result c.max_bytes-max_bytes.result
    c.max_depth.result _ (omega arith) c.max_bytes-max_bytes.ensures.same c.max_depth.ensures.same bad reported
