use Rattle.std.proofs.Common.{arith, sym, ap, ◌∙◌}
use Rattle.pb_declarations.specs.View.{field_view}
use Rattle.pb_link_names.proofs.OneofCountLemmas.{counted_next, counted_kept, front_fits, at_place}
use Rattle.pb_link_names.proofs.marks.oneofs.counted.Goals as goal
use Rattle.pb_link_names.proofs.marks.oneofs.counted.Goals.{in-Some, in_default}

pub count-requires-clause-fits : goal.count-requires-clause-fits
count-requires-clause-fits c =
    let there = at_place c.args.oneofs (field_view c.field-item.result).oneof c.in-Some.index (sym c.oneof_place.ensures ∙ c.in-Some.is) in
    omega (arith, front_fits field_view c.args.fields.now c.loop-field.field-index c.args.oneofs c.in-Some.index c.loop-field.members.items c.loop-field.are_synthetic.items c.loop-field.invariant there.0)

pub loop-field-preserved : goal.loop-field-preserved
loop-field-preserved c =
    elim c.match-oneof_place.branch [ in-Some w ↦ counted_next field_view c.args.fields.now c.loop-field.field-index c.field-item.result c.args.oneofs w.in-Some.index c.loop-field.members.items c.match-oneof_place.members.items c.loop-field.are_synthetic.items c.match-oneof_place.are_synthetic.items c.loop-field-test.true c.field-item.is (sym c.oneof_place.ensures ∙ w.in-Some.is) c.loop-field.invariant (ap (λ v. v.items) w.members-is ∙ w.count.ensures) (ap (λ v. v.items) w.are_synthetic-is ∙ w.mark.ensures) | in_default w ↦ counted_kept field_view c.args.fields.now c.loop-field.field-index c.field-item.result c.args.oneofs c.loop-field.members.items c.match-oneof_place.members.items c.loop-field.are_synthetic.items c.match-oneof_place.are_synthetic.items c.loop-field-test.true c.field-item.is (sym c.oneof_place.ensures ∙ w.in_default.is) c.loop-field.invariant (ap (λ v. v.items) w.members-is) (ap (λ v. v.items) w.are_synthetic-is) ]
