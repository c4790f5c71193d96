-- What the decoder gives at the end is answered.
use Rattle.std.proofs.Common.{refl}
use Rattle.pb_wire.specs.Fault.{Fault}
use Rattle.pb_decode.specs.Decoder.{Decoder}
use Rattle.pb_decode.specs.Parts.{decoder_of}
use Rattle.pb_c_answers.specs.Reporting.{Tells}
use Rattle.pb_c_answers.proofs.Answered.{ended, not_ended, few_ended, frame_same, given_pool}
use Rattle.pb_c_answers.proofs.decoder.answering.end.Goals as goal

pub returns-in-Ok-clause-given : goal.returns-in-Ok-clause-given
returns-in-Ok-clause-given c =
    let old : Decoder = decoder_of c.args.pool.now c.args.parts.now in let new : Decoder = decoder_of c.args.pool.now c.finish.new.parts in
    ended old new (λ (f : Fault). Tells f c.args.fault.now c.args.path.now c.args.path.now)
    (frame_same old new refl c.in-Ok.ensures.same.0 c.in-Ok.ensures.same.1) c.in-Ok.message (λ gone. let over = c.in-Ok.ensures.finished gone in absurd (cc))
    c.in-Ok.ensures.closes c.in-Ok.ensures.value c.in-Ok.ensures.accepted c.in-Ok.ensures.refused

pub returns-in-Ok-clause-same_pool : goal.returns-in-Ok-clause-same_pool
returns-in-Ok-clause-same_pool c =
    given_pool (decoder_of c.args.pool.now c.args.parts.now) c.in-Ok.message c.in-Ok.ensures.some
    (λ gone. let over = c.in-Ok.ensures.finished gone in absurd (cc)) c.in-Ok.ensures.value

pub returns-in-Err-clause-refused : goal.returns-in-Err-clause-refused
returns-in-Err-clause-refused c =
    let old : Decoder = decoder_of c.args.pool.now c.args.parts.now in let new : Decoder = decoder_of c.args.pool.now c.finish.new.parts in
    not_ended old new (λ (f : Fault). Tells f c.answer_of.new.fault c.args.path.now c.answer_of.new.path)
    (frame_same old new refl c.in-Err.ensures.same.0 c.in-Err.ensures.same.1) c.in-Err.error c.answer_of.result c.answer_of.ensures.told
    c.in-Err.ensures.some (λ gone. let over = c.in-Err.ensures.finished gone in cc) c.in-Err.ensures.fault
    c.in-Err.ensures.accepted c.in-Err.ensures.refused c.in-Err.ensures.closes

pub returns-in-Err-clause-steps : goal.returns-in-Err-clause-steps
returns-in-Err-clause-steps c is =
    few_ended (decoder_of c.args.pool.now c.args.parts.now) c.in-Err.error c.answer_of.result c.answer_of.new.fault c.args.path.now c.answer_of.new.path
    c.answer_of.ensures.told c.in-Err.ensures.some (λ gone. let over = c.in-Err.ensures.finished gone in cc) c.in-Err.ensures.fault (cc)
