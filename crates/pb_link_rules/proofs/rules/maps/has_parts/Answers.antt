use Rattle.std.proofs.Common.{◌+◌, map, ap, ◌∙◌}
use Rattle.pb_declarations.specs.View.{field_view}
use Rattle.pb_link_names.specs.View.{declaration_view}
use Rattle.pb_link_rules.specs.Maps.{right_parts, are_plain, names_of_place}
use Rattle.pb_link_rules.proofs.MapLemmas.{plain_here}
use Rattle.pb_link_rules.proofs.rules.maps.has_parts.Goals as goal

pub returns : goal.returns
returns c w e =
    let fields = map field_view c.args.fields.now in
    let ds = map declaration_view c.args.row.now in
    let all = c.args.found.now in
    let place = c.args.place in
    c.right_parts.ensures
    ∙ ap (λ b. right_parts fields b c.are_no_entries-is_second_plain.result) (plain_here w ds c.names_behind.result (names_of_place all (place + 1)) c.are_no_entries-is_first_plain.result e c.are_no_entries-is_first_plain.ensures c.names_behind.ensures)
    ∙ ap (right_parts fields (are_plain w (names_of_place all (place + 1)))) (plain_here w ds c.names_behind-2.result (names_of_place all (place + 2)) c.are_no_entries-is_second_plain.result e c.are_no_entries-is_second_plain.ensures c.names_behind-2.ensures)
