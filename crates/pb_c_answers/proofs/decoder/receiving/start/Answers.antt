-- The parts are those of the decoder that was made.
use Rattle.std.proofs.Common.{[], ap, sym, subst, ◌∙◌}
use Rattle.pb_decode.specs.Received.{After}
use Rattle.pb_c_answers.proofs.PartsLemmas.{decoder_again, of_pool_again}
use Rattle.pb_c_answers.proofs.decoder.receiving.start.Goals as goal

pub returns-in-Ok-clause-of_pool : goal.returns-in-Ok-clause-of_pool
returns-in-Ok-clause-of_pool c = of_pool_again c.in-Ok.decoder c.args.pool.now c.into_parts.result c.into_parts.ensures.of_pool c.in-Ok.ensures.of_type.0

pub returns-in-Ok-clause-of_type : goal.returns-in-Ok-clause-of_type
returns-in-Ok-clause-of_type c =
    let again = decoder_again c.in-Ok.decoder c.args.pool.now c.into_parts.result c.into_parts.ensures.same c.in-Ok.ensures.of_type.0 in
    (ap (λ d. d.kind) again ∙ c.in-Ok.ensures.of_type.1, ap (λ d. d.limits) again ∙ c.in-Ok.ensures.of_type.2)

pub returns-in-Ok-clause-after : goal.returns-in-Ok-clause-after
returns-in-Ok-clause-after c =
    let again = decoder_again c.in-Ok.decoder c.args.pool.now c.into_parts.result c.into_parts.ensures.same c.in-Ok.ensures.of_type.0 in
    subst (λ d. After d []) (sym again) c.in-Ok.ensures.after
