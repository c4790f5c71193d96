use Rattle.std.proofs.Common.{◌<◌, ◌≤◌, length, rules, sym, ap, ◌∙◌}
use Rattle.pb_value.specs.View.{values_view}
use Rattle.pb_value.proofs.Elements.{drop_nth-past, values_view-remove}
use Rattle.pb_value.proofs.InPlace.{nth_past, nth_there}
use Rattle.pb_value.proofs.change.element.take_from_list.Goals as goal

pub returns-then-index-len-clause-left : goal.returns-then-index-len-clause-left
returns-then-index-len-clause-left c =
    let past : length c.args.values.now.items ≤ c.args.index = search rules in sym (drop_nth-past c.args.index c.args.values.now.items past)

pub returns-then-index-len-clause-taken : goal.returns-then-index-len-clause-taken
returns-then-index-len-clause-taken c = let past : length c.args.values.now.items ≤ c.args.index = search rules in sym (nth_past c.args.index c.args.values.now.items past)

pub returns-clause-left : goal.returns-clause-left
returns-clause-left c = ap values_view c.remove.ensures.items ∙ values_view-remove c.args.index c.args.values.now.items

pub returns-clause-taken : goal.returns-clause-taken
returns-clause-taken c =
    let less : c.args.index < length c.args.values.now.items = search rules in
    sym (nth_there c.args.index c.args.values.now.items c.remove.result less c.remove.ensures.value)
