-- The parts are those of the decoder that received the piece.
use Rattle.std.proofs.Common.{◌≡◌, ap, sym, ◌∙◌}
use Rattle.pb_decode.specs.Parts.{decoder_of}
use Rattle.pb_c_answers.proofs.PartsLemmas.{decoder_again, of_pool_again, received_some}
use Rattle.pb_c_answers.proofs.decoder.receiving.receive.Goals as goal

pub returns-clause-of_pool : goal.returns-clause-of_pool
returns-clause-of_pool c =
    let before : c.from_parts-decoder.result ≡ decoder_of c.args.pool.now c.args.parts.now =
    c.from_parts-decoder.ensures ∙ ap (decoder_of c.args.pool.now) c.take.ensures.taken
    in
    let of_pool : c.feed-received.new.self.pool ≡ c.args.pool.now = c.feed-received.ensures.same.0 ∙ ap (λ d. d.pool) before in
    of_pool_again c.feed-received.new.self c.args.pool.now c.into_parts.result c.into_parts.ensures.of_pool of_pool

pub returns-clause-same : goal.returns-clause-same
returns-clause-same c =
    let before : c.from_parts-decoder.result ≡ decoder_of c.args.pool.now c.args.parts.now =
    c.from_parts-decoder.ensures ∙ ap (decoder_of c.args.pool.now) c.take.ensures.taken
    in
    let of_pool : c.feed-received.new.self.pool ≡ c.args.pool.now = c.feed-received.ensures.same.0 ∙ ap (λ d. d.pool) before in
    let after = decoder_again c.feed-received.new.self c.args.pool.now c.into_parts.result c.into_parts.ensures.same of_pool in
    let same = rw (before, sym after) at c.feed-received.ensures.same in
    (same.1, same.2)

pub returns-clause-after : goal.returns-clause-after
returns-clause-after c =
    let before : c.from_parts-decoder.result ≡ decoder_of c.args.pool.now c.args.parts.now =
    c.from_parts-decoder.ensures ∙ ap (decoder_of c.args.pool.now) c.take.ensures.taken
    in
    let of_pool : c.feed-received.new.self.pool ≡ c.args.pool.now = c.feed-received.ensures.same.0 ∙ ap (λ d. d.pool) before in
    let after = decoder_again c.feed-received.new.self c.args.pool.now c.into_parts.result c.into_parts.ensures.same of_pool in
    rw (before, sym after) at c.feed-received.ensures.after

pub returns-clause-goes_on : goal.returns-clause-goes_on
returns-clause-goes_on c =
    let before : c.from_parts-decoder.result ≡ decoder_of c.args.pool.now c.args.parts.now =
    c.from_parts-decoder.ensures ∙ ap (decoder_of c.args.pool.now) c.take.ensures.taken
    in
    rw before at c.feed-received.ensures.goes_on

pub returns-clause-fault : goal.returns-clause-fault
returns-clause-fault c =
    let before : c.from_parts-decoder.result ≡ decoder_of c.args.pool.now c.args.parts.now =
    c.from_parts-decoder.ensures ∙ ap (decoder_of c.args.pool.now) c.take.ensures.taken
    in
    rw before at c.feed-received.ensures.fault

pub returns-clause-going : goal.returns-clause-going
returns-clause-going c =
    let before : c.from_parts-decoder.result ≡ decoder_of c.args.pool.now c.args.parts.now =
    c.from_parts-decoder.ensures ∙ ap (decoder_of c.args.pool.now) c.take.ensures.taken
    in
    rw before at c.feed-received.ensures.going

pub returns-clause-refused : goal.returns-clause-refused
returns-clause-refused c =
    let before : c.from_parts-decoder.result ≡ decoder_of c.args.pool.now c.args.parts.now =
    c.from_parts-decoder.ensures ∙ ap (decoder_of c.args.pool.now) c.take.ensures.taken
    in
    rw before at c.feed-received.ensures.refused

pub returns-clause-closes : goal.returns-clause-closes
returns-clause-closes c =
    let before : c.from_parts-decoder.result ≡ decoder_of c.args.pool.now c.args.parts.now =
    c.from_parts-decoder.ensures ∙ ap (decoder_of c.args.pool.now) c.take.ensures.taken
    in
    let of_pool : c.feed-received.new.self.pool ≡ c.args.pool.now = c.feed-received.ensures.same.0 ∙ ap (λ d. d.pool) before in
    let after = decoder_again c.feed-received.new.self c.args.pool.now c.into_parts.result c.into_parts.ensures.same of_pool in
    rw (sym after) at c.feed-received.ensures.closes

pub returns-clause-finished : goal.returns-clause-finished
returns-clause-finished c =
    let before : c.from_parts-decoder.result ≡ decoder_of c.args.pool.now c.args.parts.now =
    c.from_parts-decoder.ensures ∙ ap (decoder_of c.args.pool.now) c.take.ensures.taken
    in
    λ gone. (c.feed-received.ensures.finished (ap (λ d. d.reading) before ∙ gone)).0

pub returns-clause-some : goal.returns-clause-some
returns-clause-some c = received_some c.args.pool.now c.args.parts.now c.requires
