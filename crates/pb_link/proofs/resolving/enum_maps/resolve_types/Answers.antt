use Rattle.std.proofs.Common.{map, ap, ◌∙◌}
use Rattle.pb_declarations.specs.View.{file_view}
use Rattle.pb_link_names.specs.View.{declaration_view, type_names_view}
use Rattle.pb_link.proofs.ResolvedLemmas.{files_resolved}
use Rattle.pb_link.proofs.resolving.enum_maps.resolve_types.Goals as goal

pub returns : goal.returns
returns c =
    let n = c.in_ok-named.ensures in
    let declared = ap (map declaration_view) c.deref.ensures.value ∙ n.row in
    let found = ap (map type_names_view) c.deref-2.ensures.value ∙ n.found in
    (n.world, n.is_world, c.in_ok-resolved.ensures ∙ files_resolved (map file_view c.args.files.now) n.world n.is_world (map declaration_view c.deref.result.now) declared (map type_names_view c.deref-2.result.now) found)
