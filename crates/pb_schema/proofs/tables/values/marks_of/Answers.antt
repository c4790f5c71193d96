use Rattle.std.proofs.Common.{◌≡◌, ℤ, true, sym, subst, rules, to_z, of_z, String, Global, map, string_bytes}
use Rattle.std.specs.Prelude.{FitsSigned}
use Rattle.std.specs.Int.{w32}
use Rattle.std.specs.List.{list_any}
use Rattle.std.specs.Ordering.{int_eq}
use Rattle.std.proofs.lemmas.Int.{to_z-of_z}
use Rattle.pb_schema.proofs.ValueLemmas.{number_there, more_marks}
use Rattle.pb_schema.proofs.tables.values.marks_of.Goals as goal

pub loop-value-preserved : goal.loop-value-preserved
loop-value-preserved c = record {
  marks =
      let vs = c.args.values.now in
      let v = c.value-item.result in
      let views = map (λ (w : String Global × ℤ). (string_bytes w.0, w.1)) vs in
      let fits : FitsSigned w32 v.1 = search rules in
      let there = number_there vs c.loop-value.value-index v c.loop-value-test.true c.value-item.is in
      more_marks views _ (to_z w32 (of_z w32 v.1)) c.distance.result c.loop-value.marks.items c.mark.new.marks.items c.distance.ensures c.mark.ensures
      (subst (λ (z : ℤ). list_any (λ w. int_eq w.1 z) views ≡ true) (sym (to_z-of_z w32 v.1 fits)) there) c.loop-value.invariant.marks;
  count = search rules;
}
