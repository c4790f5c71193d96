use Rattle.std.proofs.Common.{arith}
use Rattle.pb_wire.proofs.ExactLemmas.{text_not_both}
use Rattle.pb_schema.specs.Context.{a_message, schema_of}
use Rattle.pb_validate.proofs.JudgeLemmas.{accepted, refused}
use Rattle.pb_validate.proofs.judging.judge.Goals as goal

pub returns-then-are_whole-clause-text : goal.returns-then-are_whole-clause-text
returns-then-are_whole-clause-text c =
    let h = c.are_whole.ensures c.if-are_whole.true in (h.0, record { size = omega arith; spelled = h.1; sound = rw c.max_depth.ensures.same at h.2 })

pub returns-then-are_whole-clause-refused : goal.returns-then-are_whole-clause-refused
returns-then-are_whole-clause-refused c = λ f bad.
    let h = c.are_whole.ensures c.if-are_whole.true in
    text_not_both bad (h.0, record { size = omega arith; spelled = h.1; sound = rw c.max_depth.ensures.same at h.2 })

pub returns-clause-accepted : goal.returns-clause-accepted
returns-clause-accepted c = λ whole.
    accepted (schema_of c.args.pool.now) (a_message c.args.message_type.0) c.args.limits c.args.bytes.now c.find_fault.result c.find_fault.ensures.fault whole

pub returns-clause-refused : goal.returns-clause-refused
returns-clause-refused c = λ f h.
    refused (schema_of c.args.pool.now) (a_message c.args.message_type.0) c.args.limits c.args.bytes.now c.find_fault.result c.find_fault.ensures.text c.find_fault.ensures.fault f h
