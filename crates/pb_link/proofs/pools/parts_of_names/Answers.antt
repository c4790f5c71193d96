use Rattle.std.proofs.Common.{◌≡◌, rules, map, ap, ◌∙◌}
use Rattle.pb_declarations.specs.View.{file_view}
use Rattle.pb_link_names.specs.View.{declaration_view, type_names_view}
use Rattle.pb_link_rules.specs.Rules.{lookups}
use Rattle.pb_link.proofs.LinkLemmas.{as_many, judged_linked}
use Rattle.pb_link.proofs.pools.parts_of_names.Goals as goal

pub linked_parts-requires-clause-imports : goal.linked_parts-requires-clause-imports
linked_parts-requires-clause-imports c = c.requires.imports.all

pub linked_parts-requires-clause-sizes : goal.linked_parts-requires-clause-sizes
linked_parts-requires-clause-sizes c =
    let j = c.requires in
    let row : c.as_slice-row.result.now ≡ c.args.judged.now.row.items = search rules in
    let found : c.as_slice-found.result.now ≡ c.args.judged.now.names.found.items = search rules in
    as_many declaration_view type_names_view (lookups j.world) c.as_slice-row.result.now c.as_slice-found.result.now j.world.declared (ap (map declaration_view) row ∙ j.row) (ap (map type_names_view) found ∙ j.names.of_names.found)

pub linked_parts-requires-clause-holds : goal.linked_parts-requires-clause-holds
linked_parts-requires-clause-holds c =
    let row : c.as_slice-row.result.now ≡ c.args.judged.now.row.items = search rules in
    let found : c.as_slice-found.result.now ≡ c.args.judged.now.names.found.items = search rules in
    (c.requires.world, judged_linked (map file_view c.args.files.now) c.args.judged.now c.as_slice-row.result.now c.as_slice-found.result.now c.requires row found)

pub returns-in-Ok : goal.returns-in-Ok
returns-in-Ok c =
    let j = c.requires in
    let row : c.as_slice-row.result.now ≡ c.args.judged.now.row.items = search rules in
    let found : c.as_slice-found.result.now ≡ c.args.judged.now.names.found.items = search rules in
    record {
      world = j.world;
      is_world = j.is_world;
      holds = j.holds;
      made = c.in-Ok.ensures j.world (judged_linked (map file_view c.args.files.now) c.args.judged.now c.as_slice-row.result.now c.as_slice-found.result.now j row found);
    }
