use Rattle.std.proofs.Common.{◌≡◌, Some, None}
use Rattle.pb_json.specs.Encoded.{message_encoded}
use Rattle.pb_descr_message.specs.Pool.{descriptor_types, the_set}
use Rattle.pb_json_names.proofs.AddingLemmas.{no_set_names, not_opened, opened_set, set_held, set_names}
use Rattle.pb_json_names.proofs.set.names_of_set.Goals as goal

pub returns-in-Some : goal.returns-in-Some
returns-in-Some c =
    let some : c.in_ok-message.field-0 ≡ Some c.in-Some.message = c.in-Some.is in
    let is : message_encoded descriptor_types the_set c.args.set.now ≡ Some c.in-Some.message.body =
    opened_set c.in-Ok.descriptors c.args.set.now c.in_ok-message.field-0 c.in-Some.message c.in-Ok.ensures.types c.in_ok-message.ensures.opened some in
    set_names c.args.pool.now c.args.set.now c.in-Some.message.body c.in_ok-names_in-in-Some.field-0 is
    (set_held c.args.pool.now c.into_body.result c.in-Some.message.body c.in_ok-names_in-in-Some.field-0 c.into_body.ensures
    c.in_ok-names_in-in-Some.ensures)

pub returns : goal.returns
returns c =
    let none : c.in_ok-message.field-0 ≡ None = c.in-None.is in
    let is : message_encoded descriptor_types the_set c.args.set.now ≡ None =
    not_opened c.in-Ok.descriptors c.args.set.now c.in_ok-message.field-0 c.in-Ok.ensures.types c.in_ok-message.ensures.opened none in
    no_set_names c.args.pool.now c.args.set.now c.none.result is c.none.ensures
