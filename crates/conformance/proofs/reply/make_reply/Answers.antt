use Rattle.pb_wire.specs.Fault.{fault}
use Rattle.conformance.proofs.ReplyLemmas.{request_read, request_unread}
use Rattle.conformance.proofs.reply.make_reply.Goals as goal

pub returns-in-Ok-clause-made : goal.returns-in-Ok-clause-made
returns-in-Ok-clause-made c =
    request_read _ _ _ c.in-Ok.message c.reply_to.result c.in-Ok.ensures.of_type.0 c.in-Ok.ensures.value c.reply_to.ensures.made

pub returns-in-Err-Fault-clause-made : goal.returns-in-Err-Fault-clause-made
returns-in-Err-Fault-clause-made c =
    let has = rw c.in-Err-Fault.field-0-is at c.in-Err-Fault.ensures.fault in
    request_unread _ _ _ (fault c.in-Err-Fault.byte c.in-Err-Fault.path.items c.in-Err-Fault.cause) c.tell_fault.result has
    (rw c.deref.ensures.value at c.tell_fault.ensures.made)
