-- The names by which the message was written are those that the handle of the pool holds.
use Rattle.std.proofs.Common.{◌≡◌, Some, refl, rules}
use Rattle.pb_c_handles.specs.Held.{names_held}
use Rattle.pb_c.proofs.message.json.mb_message_json.Goals as goal

pub returns-clause-written : goal.returns-clause-written
returns-clause-written c done =
    let names = c.deref-2.result.now in
    let named : names_held c.args.pool.now ≡ Some names = search rules in
    let made = c.json_held-answer.ensures.written done in
    (names, named, (made.0, made.1, (c.deref-2.result, refl, rw c.form_of-form.ensures at made.2)))
