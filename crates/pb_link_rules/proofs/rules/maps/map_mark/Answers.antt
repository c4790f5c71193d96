use Rattle.std.proofs.Common.{map, sym, ap, ◌∙◌}
use Rattle.std.specs.List.{list_all}
use Rattle.pb_declarations.specs.View.{message_view}
use Rattle.pb_link_names.specs.ItemView.{item_view}
use Rattle.pb_link_rules.specs.Rules.{is_used_rightly}
use Rattle.pb_link_names.specs.View.{declaration_view, type_names_view}
use Rattle.pb_link_rules.specs.Maps.{map_rule, names_of_place}
use Rattle.pb_link_rules.proofs.MapLemmas.{plain_here, entry_item}
use Rattle.pb_link_rules.proofs.rules.maps.map_mark.Goals as goal

pub returns-in-Message : goal.returns-in-Message
returns-in-Message c w e =
    let d = declaration_view c.args.declaration.now in
    c.is_right_message.ensures w e
    ∙ entry_item w c.args.found.now c.args.place d c.args.is_used (message_view c.in-Message.message.now)
    ∙ ap (λ i. map_rule w c.args.found.now c.args.place d c.args.is_used (item_view i)) (sym c.in-Message.is)

pub returns-in_ok-is_right-in-Field : goal.returns-in_ok-is_right-in-Field
returns-in_ok-is_right-in-Field c w e =
    let d = declaration_view c.args.declaration.now in
    c.in_ok-is_right-in-Field.ensures w e
    ∙ ap (λ n. list_all (is_used_rightly w d) (type_names_view n)) c.names_at.ensures
    ∙ ap (λ i. map_rule w c.args.found.now c.args.place d c.args.is_used (item_view i)) (sym c.in-Field.is)

pub returns-in-Method : goal.returns-in-Method
returns-in-Method c w e =
    let d = declaration_view c.args.declaration.now in
    plain_here w (map declaration_view c.args.row.now) c.names_at-in-Method.result (names_of_place c.args.found.now c.args.place) c.are_no_entries.result e c.are_no_entries.ensures c.names_at-in-Method.ensures
    ∙ ap (λ i. map_rule w c.args.found.now c.args.place d c.args.is_used (item_view i)) (sym c.in-Method.is)
