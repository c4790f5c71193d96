use Rattle.pb_stream.proofs.OneFrame as frames
use Rattle.pb_stream.proofs.reading.read_frame.Goals as goal

pub returns-clause-ended : goal.returns-clause-ended
returns-clause-ended g c = λ known.
    frames.end_answered c.args.pool.now c.args.message_type.0 c.args.limits (λ r. r.message.body) _ _ c.take_frame.result
    (record { end = c.take_frame.ensures.end; message = c.take_frame.ensures.message; fault = c.take_frame.ensures.fault }) known (c.take_frame.ensures.none_left known)

pub returns-clause-accepted : goal.returns-clause-accepted
returns-clause-accepted g c =
    frames.frame_answered c.args.pool.now c.args.message_type.0 c.args.limits (λ r. r.message.body) _ _ c.take_frame.result
    (record { end = c.take_frame.ensures.end; message = c.take_frame.ensures.message; fault = c.take_frame.ensures.fault })

pub returns-clause-refused : goal.returns-clause-refused
returns-clause-refused g c =
    frames.fault_answered c.args.pool.now c.args.message_type.0 c.args.limits (λ r. r.message.body) _ _ c.take_frame.result
    (record { end = c.take_frame.ensures.end; message = c.take_frame.ensures.message; fault = c.take_frame.ensures.fault })
