use Rattle.std.proofs.Common.{map, ap, ◌∙◌}
use Rattle.pb_declarations.specs.View.{file_view}
use Rattle.pb_link_names.specs.View.{declaration_view, type_names_view}
use Rattle.pb_link.proofs.ResolvedLemmas.{files_resolved, resolved_same}
use Rattle.pb_link.proofs.resolving.resolve.Goals as goal

pub returns-in_ok-resolved-in-Ok-clause-resolved : goal.returns-in_ok-resolved-in-Ok-clause-resolved
returns-in_ok-resolved-in-Ok-clause-resolved c =
    let n = c.in-Ok.ensures.judged in
    let declared = ap (map declaration_view) c.deref.ensures.value ∙ n.row in
    let found = ap (map type_names_view) c.deref-in-Ok.ensures.value ∙ n.names.of_names.found in
    record {
      world = n.world;
      is_world = n.is_world;
      holds = n.holds;
      resolved = c.in_ok-resolved-in-Ok.ensures ∙ files_resolved (map file_view c.args.files.now) n.world n.is_world (map declaration_view c.deref.result.now) declared (map type_names_view c.deref-in-Ok.result.now) found;
    }

pub returns-in_ok-resolved-in-Ok-clause-accepted : goal.returns-in_ok-resolved-in-Ok-clause-accepted
returns-in_ok-resolved-in-Ok-clause-accepted c = λ answer r.
    let n = c.in-Ok.ensures.judged in
    let declared = ap (map declaration_view) c.deref.ensures.value ∙ n.row in
    let found = ap (map type_names_view) c.deref-in-Ok.ensures.value ∙ n.names.of_names.found in
    resolved_same (map file_view c.args.files.now) (map file_view c.in_ok-resolved-in-Ok.resolved.items) answer n.world n.is_world
    (c.in_ok-resolved-in-Ok.ensures ∙ files_resolved (map file_view c.args.files.now) n.world n.is_world (map declaration_view c.deref.result.now) declared (map type_names_view c.deref-in-Ok.result.now) found)
    r
