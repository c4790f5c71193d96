use Rattle.std.proofs.Common.{◌≡◌, ◌+◌, ◌∷◌, ◌++◌, [], map, take, sym, ◌∙◌, rules}
use Rattle.std.specs.Prelude.{filter_map}
use Rattle.pb_value.specs.View.{value_view}
use Rattle.pb_descr_message.specs.Held.{int_in}
use Rattle.pb_descr_message.proofs.JudgeLemmas.{one_more_given, none_more_given}
use Rattle.pb_descr_message.proofs.declaring.ints_in.Goals as goal
use Rattle.pb_descr_message.proofs.declaring.ints_in.Goals.{in-Some+in_ok-push, in_default}

pub loop-value-preserved : goal.loop-value-preserved
loop-value-preserved c =
    elim c.match-int_in.branch [
      | in-Some+in_ok-push w ↦
          let more : c.loop-value.numbers.items ++ w.in-Some.number ∷ [] ≡ filter_map int_in (map value_view (take (c.loop-value.value-index + 1) c.args.values.now)) =
          one_more_given int_in value_view c.args.values.now c.loop-value.value-index c.value-item.result w.in-Some.number c.loop-value.numbers.items c.loop-value-test.true c.value-item.is c.loop-value.invariant (sym c.int_in.ensures ∙ w.in-Some.is) in
          rw (w.numbers-is, w.in_ok-push.ensures.items) (search (rules, more))
      | in_default w ↦ rw w.numbers-is
          (none_more_given int_in value_view c.args.values.now c.loop-value.value-index c.value-item.result c.loop-value.numbers.items c.loop-value-test.true c.value-item.is c.loop-value.invariant (sym c.int_in.ensures ∙ w.in_default.is))
    ]
