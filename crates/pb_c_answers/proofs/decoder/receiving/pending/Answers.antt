-- The parts are those of the decoder that was counted.
use Rattle.std.proofs.Common.{◌≡◌, ap, ◌∙◌}
use Rattle.pb_decode.specs.Parts.{decoder_of}
use Rattle.pb_c_answers.proofs.PartsLemmas.{decoder_again, parts_same}
use Rattle.pb_c_answers.proofs.decoder.receiving.pending.Goals as goal

pub returns-clause-same : goal.returns-clause-same
returns-clause-same c =
    let before : c.from_parts-decoder.result ≡ decoder_of c.args.pool.now c.args.parts.now =
    c.from_parts-decoder.ensures ∙ ap (decoder_of c.args.pool.now) c.take.ensures.taken
    in
    let again = decoder_again c.from_parts-decoder.result c.args.pool.now c.into_parts.result c.into_parts.ensures.same (ap (λ d. d.pool) before) in
    parts_same c.args.pool.now c.args.parts.now c.into_parts.result (again ∙ before)

pub returns-clause-held : goal.returns-clause-held
returns-clause-held c =
    let before : c.from_parts-decoder.result ≡ decoder_of c.args.pool.now c.args.parts.now =
    c.from_parts-decoder.ensures ∙ ap (decoder_of c.args.pool.now) c.take.ensures.taken
    in
    rw before at c.pending-size.ensures.held

pub returns-clause-one : goal.returns-clause-one
returns-clause-one c =
    let before : c.from_parts-decoder.result ≡ decoder_of c.args.pool.now c.args.parts.now =
    c.from_parts-decoder.ensures ∙ ap (decoder_of c.args.pool.now) c.take.ensures.taken
    in
    rw before at c.pending-size.ensures.one

pub returns-clause-bound : goal.returns-clause-bound
returns-clause-bound c =
    let before : c.from_parts-decoder.result ≡ decoder_of c.args.pool.now c.args.parts.now =
    c.from_parts-decoder.ensures ∙ ap (decoder_of c.args.pool.now) c.take.ensures.taken
    in
    rw before at c.pending-size.ensures.bound

pub returns-clause-closed : goal.returns-clause-closed
returns-clause-closed c =
    let before : c.from_parts-decoder.result ≡ decoder_of c.args.pool.now c.args.parts.now =
    c.from_parts-decoder.ensures ∙ ap (decoder_of c.args.pool.now) c.take.ensures.taken
    in
    λ gone. c.pending-size.ensures.closed (ap (λ d. d.reading) before ∙ gone)
