use Rattle.std.proofs.Common.{◌≡◌}
use Rattle.pb_stream.proofs.HeldLemmas.{frame_held}
use Rattle.pb_stream.proofs.held.read_held.Goals as goal

pub returns-in_default-clause-accepted : goal.returns-in_default-clause-accepted
returns-in_default-clause-accepted c = λ v rest frame.
    c.in_default.ensures.none (frame_held c.args.pool.now c.args.message_type.0 c.args.limits c.args.bytes.now rest v frame)

pub returns-in-Ok-Some-clause-accepted : goal.returns-in-Ok-Some-clause-accepted
returns-in-Ok-Some-clause-accepted c = λ v rest frame.
    let same : c.new-given.result.left.now ≡ c.args.bytes.now = cc c.new-given.ensures.left in
    let answer = rw c.in-Ok-Some.field-0-is at c.in-Ok-Some.ensures.accepted in answer v rest (rw same frame)

pub returns-in-Ok-None-clause-accepted : goal.returns-in-Ok-None-clause-accepted
returns-in-Ok-None-clause-accepted c = λ v rest frame.
    let same : c.new-given.result.left.now ≡ c.args.bytes.now = cc c.new-given.ensures.left in
    let answer = rw c.in-Ok-None.field-0-is at c.in-Ok-None.ensures.accepted in answer v rest (rw same frame)

pub returns-in-Err-Fault-clause-accepted : goal.returns-in-Err-Fault-clause-accepted
returns-in-Err-Fault-clause-accepted c = λ v rest frame.
    let same : c.new-given.result.left.now ≡ c.args.bytes.now = cc c.new-given.ensures.left in
    let answer = rw c.in-Err-Fault.field-0-is at c.in-Err-Fault.ensures.accepted in answer v rest (rw same frame)
