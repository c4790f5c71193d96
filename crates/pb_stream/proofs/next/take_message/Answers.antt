use Rattle.std.proofs.Common.{arith}
use Rattle.pb_stream.proofs.SpanLemmas.{judged_answer}
use Rattle.pb_stream.proofs.next.take_message.Goals as goal

pub returns-clause-next : goal.returns-clause-next
returns-clause-next g c = λ x took.
    judged_answer c.args.pool.now c.args.message_type.0 c.args.limits c.args.start c.args.size c.in_ok-bytes.bytes.items x _ _ c.read_message.result took
    c.requires.start (omega arith) c.requires.size c.in_ok-bytes.ensures.bytes c.in_ok-bytes.ensures.rest
    (rw c.as_slice.ensures.value at c.read_message.ensures.judged)
