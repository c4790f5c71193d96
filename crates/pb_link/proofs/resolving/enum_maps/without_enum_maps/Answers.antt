use Rattle.std.proofs.Common.{map, ap, ◌∙◌, rules}
use Rattle.std.proofs.lemmas.List.{with_items_is}
use Rattle.pb_declarations.specs.View.{file_view}
use Rattle.pb_link.specs.EnumMaps.{file_without_maps}
use Rattle.pb_link.proofs.EnumMapLemmas.{lists_same}
use Rattle.pb_link.proofs.resolving.enum_maps.without_enum_maps.Goals as goal

pub returns-clause-made : goal.returns-clause-made
returns-clause-made c =
    let r = c.in_ok-resolved.ensures in
    let kept = with_items_is c.in_ok-resolved.resolved c.list_all_maps.new.files (search rules) in
    record { world = r.0; is_world = r.1; made = ap (map file_view) kept ∙ c.list_all_maps.ensures ∙ ap (map file_without_maps) (ap (map file_view) c.deref_mut.ensures.value ∙ r.2) }

pub returns-clause-exact : goal.returns-clause-exact
returns-clause-exact c = λ answer other.
    let r = c.in_ok-resolved.ensures in
    let kept = with_items_is c.in_ok-resolved.resolved c.list_all_maps.new.files (search rules) in
    lists_same (map file_view c.args.files.now) _ answer
    (record { world = r.0; is_world = r.1; made = ap (map file_view) kept ∙ c.list_all_maps.ensures ∙ ap (map file_without_maps) (ap (map file_view) c.deref_mut.ensures.value ∙ r.2) })
    other
