-- The message that was put together is the one that is held, and the changed one is what is held then.
use Rattle.std.proofs.Common.{◌≡◌, sym, ap}
use Rattle.pb_value.specs.View.{body_view}
use Rattle.pb_c_answers.proofs.Making.{the_message}
use Rattle.pb_c.proofs.message.change.change_own.Goals as goal

pub returns-clause-changed : goal.returns-clause-changed
returns-clause-changed c =
    let made = c.from_well_formed-message.ensures in let seen = c.own.view_is in let pool = c.deref-2.ensures in let body = c.in-Some.ensures.body in
    let same : c.from_well_formed-message.result ≡ c.args.own.now = cc in
    let kept = c.change_message-answer.ensures.same_type in let kept_pool = kept.0 in let kept_kind = kept.1 in
    let made_pool = ap (λ d. d.pool) made in let made_kind = ap (λ d. d.kind) made in
    let of_pool : c.change_message-answer.new.message.pool ≡ c.own.inside.pool.value = cc in
    let of_kind : c.change_message-answer.new.message.kind ≡ c.own.inside.message_type.0 = cc in
    let after =
    the_message c.change_message-answer.new.message c.own.inside.pool.value c.own.inside.message_type.0 (body_view c.into_body.result) of_pool of_kind (sym c.into_body.ensures)
    in
    rw (same, after) at c.change_message-answer.ensures.changed
