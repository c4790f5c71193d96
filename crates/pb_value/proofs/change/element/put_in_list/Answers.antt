use Rattle.std.proofs.Common.{◌<◌, ◌≤◌, length, Some, rules, sym, ap, ◌∙◌}
use Rattle.pb_value.specs.View.{value_view}
use Rattle.pb_value.proofs.Elements.{in_nth-past}
use Rattle.pb_value.proofs.InPlace.{nth_past, nth_there, values_view-in_nth}
use Rattle.pb_value.proofs.change.element.put_in_list.Goals as goal

pub returns-in-Some-clause-left : goal.returns-in-Some-clause-left
returns-in-Some-clause-left c =
    let less : c.args.index < length c.args.values.now.items = search rules in
    values_view-in_nth c.args.index c.args.values.now.items c.in-Some.element.now c.replace.new.dest (λ e. value_view c.args.value) less c.in-Some.ensures.value
    (ap value_view c.replace.ensures.after)

pub returns-in-Some-clause-taken : goal.returns-in-Some-clause-taken
returns-in-Some-clause-taken c =
    let less : c.args.index < length c.args.values.now.items = search rules in
    ap (λ v. Some (value_view v)) c.replace.ensures.value ∙ sym (nth_there c.args.index c.args.values.now.items c.in-Some.element.now less c.in-Some.ensures.value)

pub returns-in-None-clause-left : goal.returns-in-None-clause-left
returns-in-None-clause-left c =
    let past : length c.args.values.now.items ≤ c.args.index = search rules in sym (in_nth-past (λ e. value_view c.args.value) c.args.index c.args.values.now.items past)

pub returns-in-None-clause-taken : goal.returns-in-None-clause-taken
returns-in-None-clause-taken c = let past : length c.args.values.now.items ≤ c.args.index = search rules in sym (nth_past c.args.index c.args.values.now.items past)
