-- The parts are those of the decoder that gave its message or its fault.
use Rattle.std.proofs.Common.{◌≡◌, ap, sym, ◌∙◌}
use Rattle.pb_decode.specs.Parts.{decoder_of}
use Rattle.pb_c_answers.proofs.PartsLemmas.{decoder_again, of_pool_again, received_some}
use Rattle.pb_c_answers.proofs.decoder.receiving.finish.Goals as goal

pub returns-clause-of_pool : goal.returns-clause-of_pool
returns-clause-of_pool c =
    let before : c.from_parts-decoder.result ≡ decoder_of c.args.pool.now c.args.parts.now =
    c.from_parts-decoder.ensures ∙ ap (decoder_of c.args.pool.now) c.take.ensures.taken
    in
    let of_pool : c.finish-finished.new.self.pool ≡ c.args.pool.now = c.finish-finished.ensures.same.0 ∙ ap (λ d. d.pool) before in
    of_pool_again c.finish-finished.new.self c.args.pool.now c.into_parts.result c.into_parts.ensures.of_pool of_pool

pub returns-clause-same : goal.returns-clause-same
returns-clause-same c =
    let before : c.from_parts-decoder.result ≡ decoder_of c.args.pool.now c.args.parts.now =
    c.from_parts-decoder.ensures ∙ ap (decoder_of c.args.pool.now) c.take.ensures.taken
    in
    let of_pool : c.finish-finished.new.self.pool ≡ c.args.pool.now = c.finish-finished.ensures.same.0 ∙ ap (λ d. d.pool) before in
    let after = decoder_again c.finish-finished.new.self c.args.pool.now c.into_parts.result c.into_parts.ensures.same of_pool in
    let same = rw (before, sym after) at c.finish-finished.ensures.same in
    (same.1, same.2)

pub returns-clause-value : goal.returns-clause-value
returns-clause-value c =
    let before : c.from_parts-decoder.result ≡ decoder_of c.args.pool.now c.args.parts.now =
    c.from_parts-decoder.ensures ∙ ap (decoder_of c.args.pool.now) c.take.ensures.taken
    in
    rw before at c.finish-finished.ensures.value

pub returns-clause-fault : goal.returns-clause-fault
returns-clause-fault c =
    let before : c.from_parts-decoder.result ≡ decoder_of c.args.pool.now c.args.parts.now =
    c.from_parts-decoder.ensures ∙ ap (decoder_of c.args.pool.now) c.take.ensures.taken
    in
    rw before at c.finish-finished.ensures.fault

pub returns-clause-accepted : goal.returns-clause-accepted
returns-clause-accepted c =
    let before : c.from_parts-decoder.result ≡ decoder_of c.args.pool.now c.args.parts.now =
    c.from_parts-decoder.ensures ∙ ap (decoder_of c.args.pool.now) c.take.ensures.taken
    in
    rw before at c.finish-finished.ensures.accepted

pub returns-clause-refused : goal.returns-clause-refused
returns-clause-refused c =
    let before : c.from_parts-decoder.result ≡ decoder_of c.args.pool.now c.args.parts.now =
    c.from_parts-decoder.ensures ∙ ap (decoder_of c.args.pool.now) c.take.ensures.taken
    in
    rw before at c.finish-finished.ensures.refused

pub returns-clause-closes : goal.returns-clause-closes
returns-clause-closes c =
    let before : c.from_parts-decoder.result ≡ decoder_of c.args.pool.now c.args.parts.now =
    c.from_parts-decoder.ensures ∙ ap (decoder_of c.args.pool.now) c.take.ensures.taken
    in
    let of_pool : c.finish-finished.new.self.pool ≡ c.args.pool.now = c.finish-finished.ensures.same.0 ∙ ap (λ d. d.pool) before in
    let after = decoder_again c.finish-finished.new.self c.args.pool.now c.into_parts.result c.into_parts.ensures.same of_pool in
    ap (λ d. d.reading) after ∙ c.finish-finished.ensures.closes

pub returns-clause-finished : goal.returns-clause-finished
returns-clause-finished c =
    let before : c.from_parts-decoder.result ≡ decoder_of c.args.pool.now c.args.parts.now =
    c.from_parts-decoder.ensures ∙ ap (decoder_of c.args.pool.now) c.take.ensures.taken
    in
    λ gone. c.finish-finished.ensures.finished (ap (λ d. d.reading) before ∙ gone)

pub returns-clause-some : goal.returns-clause-some
returns-clause-some c = received_some c.args.pool.now c.args.parts.now c.requires
