-- The bytes of the frame are a message, or have the fault of the frame.
use Rattle.std.proofs.Common.{◌≡◌, ◌<◌, ◌^◌, [], None, Some, refl, ◌∙◌, arith, inl, inr, ⊎_elim}
use Rattle.std.specs.Prelude.{IfSome, drop}
use Rattle.std.proofs.lemmas.Result.{err_from_is_err_and}
use Rattle.pb_value.specs.Dynamic.{Dynamic}
use Rattle.pb_decode.specs.Reader.Start.{Start, starting, further, IsWhole, BadFrom}
use Rattle.pb_decode.specs.Loops.{ReportedOf}
use Rattle.pb_decode.specs.Frame.{IsFrameOf, BadFrame}
use Rattle.pb_decode.proofs.Outcomes.{ok_weaker, on_ok, ok_left, tells_kept, never_device}
use Rattle.pb_decode.proofs.DeviceLemmas.{reads_at, err_refused, if_refused_weaker}
use Rattle.pb_decode.proofs.InFrame.{frame_left, rest_left, reported_frame, bad_frame, low_byte}
use Rattle.pb_decode.proofs.frame.read_in_pieces.Goals as goal

pub returns-in_err-take_frame-clause-fault : goal.returns-in_err-take_frame-clause-fault
returns-in_err-take_frame-clause-fault g c =
    λ x given.
    let p = err_from_is_err_and c.from_residual.result c.from_residual.ensures.1 in
    rw (p.1, p.2)
    (if_refused_weaker c.in_err-take_frame.field-0.0 (ReportedOf c.args.pool.now (starting c.args.message_type.0 c.args.limits.depth [] (Some c.args.size)) x (g.I.Input.left c.take_frame.new.input) c.args.size) (λ f. IfSome x (λ left. BadFrame c.args.pool.now c.args.message_type.0 c.args.limits.depth 0 c.args.size left f))
    (λ f reported. reported_frame x (g.I.Input.left c.take_frame.new.input) c.args.size c.args.size f reported) (c.in_err-take_frame.ensures.fault x (starting c.args.message_type.0 c.args.limits.depth [] (Some c.args.size)) given c.begin_empty-reading.ensures.took))

pub returns-in_err-take_frame-clause-low : goal.returns-in_err-take_frame-clause-low
returns-in_err-take_frame-clause-low g c =
    let p = err_from_is_err_and c.from_residual.result c.from_residual.ensures.1 in
    let small = c.max_bytes-small.ensures.small in
    let same = c.max_bytes-small.ensures.same in
    let fits = c.requires.size in
    rw (p.1, p.2)
    (if_refused_weaker c.in_err-take_frame.field-0.0 (ReportedOf c.args.pool.now (starting c.args.message_type.0 c.args.limits.depth [] (Some c.args.size)) None (g.I.Input.left c.take_frame.new.input) c.args.size) (λ f. f.byte < 2 ^ 31)
    (λ f reported. let few = reported.few in let low = low_byte c.args.pool.now f reported.reported.bad in omega (arith, few, low, small, same, fits)) (c.in_err-take_frame.ensures.fault None (starting c.args.message_type.0 c.args.limits.depth [] (Some c.args.size)) tt c.begin_empty-reading.ensures.took))

pub finish_message-requires-clause-took : goal.finish_message-requires-clause-took
finish_message-requires-clause-took g c = (
  further (starting c.args.message_type.0 c.args.limits.depth [] (Some c.args.size)) (c.in_ok-take_frame.ensures.read None tt).bytes,
  refl,
  (c.in_ok-take_frame.ensures.read None tt).onward (starting c.args.message_type.0 c.args.limits.depth [] (Some c.args.size)) c.begin_empty-reading.ensures.took,
)

pub finish_message-requires-clause-small : goal.finish_message-requires-clause-small
finish_message-requires-clause-small g c =
    let at = reads_at (starting c.args.message_type.0 c.args.limits.depth [] (Some c.args.size)) (c.in_ok-take_frame.ensures.read None tt) c.begin_empty-reading.ensures.took in
    let begun = c.begin_empty-reading.ensures.at in
    let few = c.in_ok-take_frame.ensures.count in
    let small = c.max_bytes-small.ensures.small in
    let same = c.max_bytes-small.ensures.same in
    let fits = c.requires.size in
    omega (arith, at, begun.0, begun.1, few, small, same, fits)

pub returns-clause-value : goal.returns-clause-value
returns-clause-value g c =
    λ x given.
    let read = c.in_ok-take_frame.ensures.read x given in
    let few = c.in_ok-take_frame.ensures.count in
    let size = read.size in
    let o : Start = further (starting c.args.message_type.0 c.args.limits.depth [] (Some c.args.size)) read.bytes in
    ok_left c.finish_message.result x (λ left (m : Dynamic). IsFrameOf c.args.pool.now c.args.message_type.0 c.args.limits c.args.size left m.body)
    (ok_weaker c.finish_message.result (λ (m : Dynamic). IsWhole c.args.pool.now o m.body) (λ (m : Dynamic). IfSome x (λ left. IsFrameOf c.args.pool.now c.args.message_type.0 c.args.limits c.args.size left m.body))
    (λ m whole. frame_left x (g.I.Input.left c.take_frame.new.input) c.args.size read.bytes m.body c.requires.size (omega (arith, few, size)) read.given whole)
    (c.finish_message.ensures.whole o (read.onward (starting c.args.message_type.0 c.args.limits.depth [] (Some c.args.size)) c.begin_empty-reading.ensures.took)))

pub returns-clause-rest : goal.returns-clause-rest
returns-clause-rest g c =
    λ x given.
    let read = c.in_ok-take_frame.ensures.read x given in
    let few = c.in_ok-take_frame.ensures.count in
    let size = read.size in
    let o : Start = further (starting c.args.message_type.0 c.args.limits.depth [] (Some c.args.size)) read.bytes in
    on_ok c.finish_message.result (λ (m : Dynamic). IsWhole c.args.pool.now o m.body) (IfSome x (λ left. g.I.Input.left c.take_frame.new.input ≡ Some (drop c.args.size left)))
    (λ m whole. rest_left x (g.I.Input.left c.take_frame.new.input) c.args.size read.bytes m.body (omega (arith, few, size)) read.given whole)
    (c.finish_message.ensures.whole o (read.onward (starting c.args.message_type.0 c.args.limits.depth [] (Some c.args.size)) c.begin_empty-reading.ensures.took))

pub returns-clause-fault : goal.returns-clause-fault
returns-clause-fault g c =
    λ x given.
    let read = c.in_ok-take_frame.ensures.read x given in
    let size = read.size in
    let o : Start = further (starting c.args.message_type.0 c.args.limits.depth [] (Some c.args.size)) read.bytes in
    err_refused c.finish_message.result (BadFrom c.args.pool.now o) (λ f. IfSome x (λ left. BadFrame c.args.pool.now c.args.message_type.0 c.args.limits.depth 0 c.args.size left f))
    (λ f bad. bad_frame c.args.pool.now x (g.I.Input.left c.take_frame.new.input) c.args.size read.bytes f (⊎_elim (λ all. inl (size ∙ all)) (λ ended. inr ended) c.in_ok-take_frame.ensures.ends) read.given bad)
    (c.finish_message.ensures.fault o (read.onward (starting c.args.message_type.0 c.args.limits.depth [] (Some c.args.size)) c.begin_empty-reading.ensures.took))

pub returns-clause-low : goal.returns-clause-low
returns-clause-low g c =
    let read = c.in_ok-take_frame.ensures.read None tt in
    let few = c.in_ok-take_frame.ensures.count in
    let size = read.size in
    let small = c.max_bytes-small.ensures.small in
    let same = c.max_bytes-small.ensures.same in
    let fits = c.requires.size in
    let o : Start = further (starting c.args.message_type.0 c.args.limits.depth [] (Some c.args.size)) read.bytes in
    err_refused c.finish_message.result (BadFrom c.args.pool.now o) (λ f. f.byte < 2 ^ 31) (λ f bad. let low = low_byte c.args.pool.now f bad in omega (arith, few, size, low, small, same, fits))
    (c.finish_message.ensures.fault o (read.onward (starting c.args.message_type.0 c.args.limits.depth [] (Some c.args.size)) c.begin_empty-reading.ensures.took))

pub returns-clause-failures : goal.returns-clause-failures
returns-clause-failures g c =
    let read = c.in_ok-take_frame.ensures.read None tt in
    let o : Start = further (starting c.args.message_type.0 c.args.limits.depth [] (Some c.args.size)) read.bytes in
    tells_kept c.finish_message.result (BadFrom c.args.pool.now o) _ _ c.in_ok-take_frame.ensures.failures
    (c.finish_message.ensures.fault o (read.onward (starting c.args.message_type.0 c.args.limits.depth [] (Some c.args.size)) c.begin_empty-reading.ensures.took))

pub returns-clause-steady : goal.returns-clause-steady
returns-clause-steady g c =
    let read = c.in_ok-take_frame.ensures.read None tt in
    let o : Start = further (starting c.args.message_type.0 c.args.limits.depth [] (Some c.args.size)) read.bytes in
    λ h. never_device c.finish_message.result (BadFrom c.args.pool.now o) (c.finish_message.ensures.fault o (read.onward (starting c.args.message_type.0 c.args.limits.depth [] (Some c.args.size)) c.begin_empty-reading.ensures.took))
