-- The message that was put together is the one that is held.
use Rattle.std.proofs.Common.{◌≡◌}
use Rattle.pb_c.proofs.message.fields.fields_own.Goals as goal

pub returns-clause-answered : goal.returns-clause-answered
returns-clause-answered c =
    let made = c.from_well_formed-message.ensures in let seen = c.own.view_is in let pool = c.deref-2.ensures in let body = c.in-Some.ensures.body in
    let same : c.from_well_formed-message.result ≡ c.args.own.now = cc in
    rw same at c.write_fields-answer.ensures.answered
