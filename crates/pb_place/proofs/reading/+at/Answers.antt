use Rattle.std.proofs.Common.{Some, None, option_map, sym, ap, ◌∙◌}
use Rattle.pb_value.specs.Inner.{type_named}
use Rattle.pb_value.specs.View.{value_view, values_view, entries_view}
use Rattle.pb_value.proofs.InnerLemmas.{nth_datum-found, get_entry-found}
use Rattle.pb_place.specs.At.{seen, part_at, as_part}
use Rattle.pb_place.specs.Found.{found_view}
use Rattle.pb_place.proofs.Steps.{list_step, map_step, list_message, map_message, scalar_ends}
use Rattle.pb_place.proofs.reading.+at.Goals as goal

-- LISTS

pub in_list-returns-in_err-value : goal.in_list-returns-in_err-value
in_list-returns-in_err-value t c =
    let v = c.args.message in
    let vs = c.args.values.now.items in
    let found = nth_datum-found c.get.result c.in-Index.index vs (rw c.deref.ensures.value at c.get.ensures.lookup) in
    let gone = sym found ∙ ap (option_map (λ x. value_view x.now)) (c.in_err-value.was) in
    ap (option_map found_view) c.from_residual.ensures
    ∙ sym (ap (option_map seen) (list_step v.pool (type_named v.pool v.kind c.args.number) (values_view vs) c.args.place.now c.in-Some.rest.now c.in-Some.step.now c.in-Index.index None c.in-Some.ensures.cases.0 c.in-Index.is gone))

pub in_list-returns : goal.in_list-returns
in_list-returns t c =
    let v = c.args.message in
    let vs = c.args.values.now.items in
    let d = value_view c.in_ok-value.value.now in
    let found = nth_datum-found c.get.result c.in-Index.index vs (rw c.deref.ensures.value at c.get.ensures.lookup) in
    let there = sym found ∙ ap (option_map (λ x. value_view x.now)) (c.in_ok-value.was) in
    c.in_value.ensures
    ∙ ap (λ x. option_map seen (part_at c.in-Some.rest.now x)) (list_message v c.args.number c.in-Index.index (values_view vs) d c.message_at.result c.requires there c.message_at.ensures)
    ∙ sym (ap (option_map seen) (list_step v.pool (type_named v.pool v.kind c.args.number) (values_view vs) c.args.place.now c.in-Some.rest.now c.in-Some.step.now c.in-Index.index (Some d) c.in-Some.ensures.cases.0 c.in-Index.is there))

-- MAPS

pub in_map-returns-in_err-value : goal.in_map-returns-in_err-value
in_map-returns-in_err-value t c =
    let v = c.args.message in
    let es = c.args.entries.now.entries in
    let found = get_entry-found c.get.result c.in-Key.key es c.get.ensures.value in
    let gone = sym found ∙ ap (option_map (λ x. value_view x.now)) (c.in_err-value.was) in
    ap (option_map found_view) c.from_residual.ensures
    ∙ sym (ap (option_map seen) (map_step v.pool (type_named v.pool v.kind c.args.number) (entries_view es) c.args.place.now c.in-Some.rest.now c.in-Some.step.now c.in-Key.key None c.in-Some.ensures.cases.0 c.in-Key.is gone))

pub in_map-returns : goal.in_map-returns
in_map-returns t c =
    let v = c.args.message in
    let es = c.args.entries.now.entries in
    let d = value_view c.in_ok-value.value.now in
    let found = get_entry-found c.get.result c.in-Key.key es c.get.ensures.value in
    let there = sym found ∙ ap (option_map (λ x. value_view x.now)) (c.in_ok-value.was) in
    c.in_value.ensures
    ∙ ap (λ x. option_map seen (part_at c.in-Some.rest.now x)) (map_message v c.args.number c.in-Key.key (entries_view es) d c.message_of.result c.requires there c.message_of.ensures)
    ∙ sym (ap (option_map seen) (map_step v.pool (type_named v.pool v.kind c.args.number) (entries_view es) c.args.place.now c.in-Some.rest.now c.in-Some.step.now c.in-Key.key (Some d) c.in-Some.ensures.cases.0 c.in-Key.is there))

-- VALUES

pub in_value-returns-in-None-2 : goal.in_value-returns-in-None-2
in_value-returns-in-None-2 t c =
    let d = value_view c.args.value.now in
    sym (ap (λ m. option_map seen (part_at c.args.place.now (as_part m d))) c.in-None.is
    ∙ ap (option_map seen) (scalar_ends c.args.place.now d c.is_empty.result c.if-is_empty.false c.is_empty.ensures))
