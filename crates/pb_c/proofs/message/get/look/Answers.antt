-- The message in whose bytes was looked is the one that is held.
use Rattle.std.proofs.Common.{◌≡◌}
use Rattle.pb_c_message.specs.Holds.{message_held}
use Rattle.pb_c.proofs.message.get.look.Goals as goal

pub returns-clause-found : goal.returns-clause-found
returns-clause-found c =
    let seen = c.own.view_is in let pool = c.deref.ensures in let looked = c.may_look.ensures.same in
    let same : message_held c.deref.result.now c.own.inside.message_type.0 c.own.inside.held ≡ c.args.own.now = cc in
    rw same at c.plain_held.ensures
