use Rattle.std.proofs.Common.{[], ap}
use Rattle.std.specs.Option.{option_map_or}
use Rattle.pb_value.proofs.FieldViews.{get_field-found}
use Rattle.pb_json.specs.Held.{bytes_held}
use Rattle.pb_json.proofs.HeldLemmas.{held_found}
use Rattle.pb_json.proofs.held.bytes_at.Goals as goal

pub returns-in-Some : goal.returns-in-Some
returns-in-Some c =
    let found = get_field-found c.get.result c.args.number c.args.fields.now.entries c.get.ensures.value in
    held_found bytes_held c.get.result c.args.number c.args.fields.now.entries c.in-Some.content _ found c.in-Some.is c.bytes_held.ensures

pub returns-in-None : goal.returns-in-None
returns-in-None c =
    let found = get_field-found c.get.result c.args.number c.args.fields.now.entries c.get.ensures.value in
    ap (λ o. option_map_or bytes_held o []) (rw c.in-None.is at found)
