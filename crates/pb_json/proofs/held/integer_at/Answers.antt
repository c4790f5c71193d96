use Rattle.std.proofs.Common.{◌≡◌, ◌∙◌, ap, of_z, rules, sym, to_z, w64}
use Rattle.std.specs.Prelude.{pos}
use Rattle.std.specs.Option.{option_map_or}
use Rattle.pb_value.proofs.FieldViews.{get_field-found}
use Rattle.pb_json.specs.Held.{integer_held}
use Rattle.pb_json.proofs.HeldLemmas.{integer_found}
use Rattle.pb_json.proofs.held.integer_at.Goals as goal

pub returns-in-Some : goal.returns-in-Some
returns-in-Some c =
    let same : c.integer_held.result ≡ to_z w64 (of_z w64 c.integer_held.result) = search rules in
    let found = get_field-found c.get.result c.args.number c.args.fields.now.entries c.get.ensures.value in
    sym same ∙ integer_found c.get.result c.args.number c.args.fields.now.entries c.in-Some.content c.integer_held.result found c.in-Some.is c.integer_held.ensures

pub returns-in-None : goal.returns-in-None
returns-in-None c =
    let found = get_field-found c.get.result c.args.number c.args.fields.now.entries c.get.ensures.value in
    ap (λ o. option_map_or integer_held o (pos 0)) (rw c.in-None.is at found)
