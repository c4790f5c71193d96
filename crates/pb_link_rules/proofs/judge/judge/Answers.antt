use Rattle.std.proofs.Common.{map, not, ap, ◌∙◌}
use Rattle.std.specs.List.{list_any, list_all}
use Rattle.pb_declarations.specs.View.{method_view, file_view}
use Rattle.pb_link_names.specs.ItemView.{item_view}
use Rattle.pb_link_names.specs.Lookup.{not_found, not_visible, not_a_type}
use Rattle.pb_link_rules.specs.Rules.{is_same_fault, passes, is_message}
use Rattle.pb_link_rules.specs.Judging.{world_of}
use Rattle.pb_link_names.specs.View.{declaration_view}
use Rattle.pb_link_rules.proofs.JudgeLemmas.{method_told}
use Rattle.pb_link_rules.proofs.judge.judge.Goals as goal

pub returns-in-Method : goal.returns-in-Method
returns-in-Method c = λ s place told.
    let w = world_of (map file_view c.args.files.now) (map declaration_view c.args.row.now) s in
    let d = declaration_view c.args.declaration.now in
    c.first_failing-in-Method.ensures ∙ method_told w place d (method_view c.in-Method.field-0.now) c.name_is_right-name_is_right.result c.args.at.is_free c.are_found-in-Method.result c.are_visible-in-Method.result c.are_types-in-Method.result c.args.at.is_map_right c.are_messages.result (ap item_view c.in-Method.is) c.name_is_right-name_is_right.ensures told.is_free
    (c.are_found-in-Method.ensures ∙ ap (λ l. not (list_any (is_same_fault not_found) l)) told.found)
    (c.are_visible-in-Method.ensures ∙ ap (λ l. not (list_any (is_same_fault not_visible) l)) told.found)
    (c.are_types-in-Method.ensures ∙ ap (λ l. not (list_any (is_same_fault not_a_type) l)) told.found)
    told.is_map_right
    (c.are_messages.ensures (map file_view c.args.files.now) s ∙ ap (list_all (passes w is_message)) told.found)
