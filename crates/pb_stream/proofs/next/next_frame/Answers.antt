use Rattle.std.proofs.Common.{◌≡◌, length, take, sym, arith}
use Rattle.std.proofs.lemmas.List.{length-take-le}
use Rattle.pb_stream.proofs.LengthLemmas.{varint_taken}
use Rattle.pb_stream.proofs.SpanLemmas.{unread_length}
use Rattle.pb_stream.proofs.next.next_frame.Goals as goal

pub returns-in-Err-clause-next : goal.returns-in-Err-clause-next
returns-in-Err-clause-next g c =
    let size : length (take c.in-Ok.taken c.take_varint.new.bytes) ≡ c.in-Ok.taken = length-take-le _ _ (omega (arith, c.in-Ok.ensures.within)) in
    let reason = c.reason_at-reason.ensures in
    unread_length c.args.pool.now c.args.message_type.0 c.args.limits (take c.in-Ok.taken c.take_varint.new.bytes) c.reason_at-reason.result _ _ (omega (arith, size, c.in-Ok.ensures.within)) (omega (arith, size))
    c.in-Ok.ensures.taken c.in-Ok.ensures.ends (rw (reason.0, reason.2) c.in-Err.ensures.fault) reason.1

pub returns-in-Ok-read_varint-clause-of_type : goal.returns-in-Ok-read_varint-clause-of_type
returns-in-Ok-read_varint-clause-of_type g c = c.pass_too_large.ensures.of_type c.args.pool.now c.args.message_type.0

pub returns-in-Ok-read_varint-clause-next : goal.returns-in-Ok-read_varint-clause-next
returns-in-Ok-read_varint-clause-next g c =
    let all = varint_taken _ _ _ _ c.in-Ok.ensures.ends c.in-Ok-read_varint.ensures.within c.in-Ok-read_varint.ensures.found in
    c.pass_too_large.ensures.next c.args.pool.now c.args.message_type.0 c.args.limits (g.I.Input.left c.args.input.now) (omega arith)
    (_, all.1, sym all.0, c.in-Ok.ensures.taken)

pub returns-in-Ok-2-clause-next : goal.returns-in-Ok-2-clause-next
returns-in-Ok-2-clause-next g c =
    let all = varint_taken _ _ _ _ c.in-Ok.ensures.ends c.in-Ok-read_varint.ensures.within c.in-Ok-read_varint.ensures.found in
    c.take_message.ensures.next (g.I.Input.left c.args.input.now) (_, all.1, sym all.0, c.in-Ok.ensures.taken)
