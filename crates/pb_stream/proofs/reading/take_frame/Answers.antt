use Rattle.std.proofs.lemmas.Result.{err_from_is_err_and}
use Rattle.pb_stream.proofs.FrameLemmas.{frame_taken, fault_in_frame, frame_counted, stays_in_text, whichever, some_for_length}
use Rattle.pb_stream.proofs.reading.take_frame.Goals as goal

pub returns-in_err-header-clause-fault : goal.returns-in_err-header-clause-fault
returns-in_err-header-clause-fault g c =
    let p = err_from_is_err_and c.from_residual.result c.from_residual.ensures.1 in
    rw (p.1, p.2) (whichever c.args.pool.now c.args.message_type.0 c.args.limits (g.I.Input.left c.args.input.now) c.in_err-header.field-0.0 c.in_err-header.ensures.fault)

pub returns-in_err-message-clause-fault : goal.returns-in_err-message-clause-fault
returns-in_err-message-clause-fault g c =
    let p = err_from_is_err_and c.from_residual-in_err-message.result c.from_residual-in_err-message.ensures.1 in
    rw (p.1, p.2)
    (fault_in_frame c.args.pool.now c.args.message_type.0 c.args.limits (g.I.Input.left c.args.input.now) (g.I.Input.left c.read_length.new.input) c.in-Some.header.start
    c.in-Some.header.size c.in_err-message.field-0.0 (rw c.in-Some.is at c.in_ok-header.ensures.length) ((rw c.in-Some.is at c.in_ok-header.ensures.small).1)
    c.in_err-message.ensures.fault)

pub returns-in_err-message-clause-within : goal.returns-in_err-message-clause-within
returns-in_err-message-clause-within g c =
    stays_in_text _ _ _ _ _ _ (rw c.in-Some.is at c.in_ok-header.ensures.length) ((rw c.in-Some.is at c.in_ok-header.ensures.small).1) c.in_err-message.ensures.most

pub returns-clause-message : goal.returns-clause-message
returns-clause-message g c =
    frame_taken c.args.pool.now c.args.message_type.0 c.args.limits (g.I.Input.left c.args.input.now) (g.I.Input.left c.read_length.new.input)
    (g.I.Input.left c.decode_frame.new.input) c.in-Some.header.start c.in-Some.header.size c.in_ok-message.message.body
    (rw c.in-Some.is at c.in_ok-header.ensures.length) c.in_ok-message.ensures.value c.in_ok-message.ensures.rest

pub returns-clause-counted : goal.returns-clause-counted
returns-clause-counted g c =
    rw (c.from.ensures)
    (frame_counted c.args.pool.now c.args.message_type.0 c.args.limits (g.I.Input.left c.args.input.now) (g.I.Input.left c.read_length.new.input)
    (g.I.Input.left c.decode_frame.new.input) c.in-Some.header.start c.in-Some.header.size c.in_ok-message.message.body
    (rw c.in-Some.is at c.in_ok-header.ensures.length) c.in_ok-message.ensures.value c.in_ok-message.ensures.rest)

pub returns-clause-within : goal.returns-clause-within
returns-clause-within g c =
    stays_in_text _ _ _ _ _ _ (rw c.in-Some.is at c.in_ok-header.ensures.length) ((rw c.in-Some.is at c.in_ok-header.ensures.small).1) c.in_ok-message.ensures.most

pub returns-in_err-message-clause-none_left : goal.returns-in_err-message-clause-none_left
returns-in_err-message-clause-none_left g c = λ none told. some_for_length _ _ _ _ (rw c.in-Some.is at c.in_ok-header.ensures.length) none
