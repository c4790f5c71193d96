-- What the decoder answers to the piece is answered.
use Rattle.std.proofs.Common.{refl}
use Rattle.pb_wire.specs.Fault.{Fault}
use Rattle.pb_decode.specs.Decoder.{Decoder}
use Rattle.pb_decode.specs.Parts.{decoder_of}
use Rattle.pb_c_answers.specs.Reporting.{Tells}
use Rattle.pb_c_answers.proofs.Answered.{fed, unfed, few_fed, frame_same}
use Rattle.pb_c_answers.proofs.decoder.answering.give.Goals as goal

pub returns-in-Ok-clause-fed : goal.returns-in-Ok-clause-fed
returns-in-Ok-clause-fed c =
    let old : Decoder = decoder_of c.args.pool.now c.args.parts.now in let new : Decoder = decoder_of c.args.pool.now c.receive.new.parts in
    fed old new c.args.piece.now (λ (f : Fault). Tells f c.args.fault.now c.args.path.now c.args.path.now)
    (frame_same old new refl c.in-Ok.ensures.same.0 c.in-Ok.ensures.same.1) (λ gone. let over = c.in-Ok.ensures.finished gone in absurd (cc))
    c.in-Ok.ensures.after c.in-Ok.ensures.goes_on c.in-Ok.ensures.refused

pub returns-in-Err-clause-fed : goal.returns-in-Err-clause-fed
returns-in-Err-clause-fed c =
    let old : Decoder = decoder_of c.args.pool.now c.args.parts.now in let new : Decoder = decoder_of c.args.pool.now c.receive.new.parts in
    unfed old new c.args.piece.now (λ (f : Fault). Tells f c.answer_of.new.fault c.args.path.now c.answer_of.new.path)
    (frame_same old new refl c.in-Err.ensures.same.0 c.in-Err.ensures.same.1) c.in-Err.error c.answer_of.result c.answer_of.ensures.told
    c.in-Err.ensures.some (λ gone. let over = c.in-Err.ensures.finished gone in cc) c.in-Err.ensures.fault
    c.in-Err.ensures.going c.in-Err.ensures.refused c.in-Err.ensures.closes

pub returns-in-Err-clause-steps : goal.returns-in-Err-clause-steps
returns-in-Err-clause-steps c =
    few_fed (decoder_of c.args.pool.now c.args.parts.now) c.args.piece.now c.in-Err.error c.answer_of.result c.answer_of.new.fault c.args.path.now
    c.answer_of.new.path c.answer_of.ensures.told c.in-Err.ensures.some (λ gone. let over = c.in-Err.ensures.finished gone in cc) c.in-Err.ensures.fault
