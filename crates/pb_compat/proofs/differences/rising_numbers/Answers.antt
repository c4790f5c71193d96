use Rattle.std.proofs.Common.{◌∙◌, map, ap, subst, arith, IsPermutation}
use Rattle.std.proofs.lemmas.List.Sorted.{IsNonDecreasingBy-from_sort}
use Rattle.pb_schema.specs.View.{field_view}
use Rattle.pb_schema.proofs.NumberLemmas.{all_taken}
use Rattle.pb_compat.proofs.differences.rising_numbers.Goals as goal

pub returns : goal.returns
returns c = record {
  all =
      subst (λ xs. IsPermutation xs c.sort_unstable.new.self.items)
      (c.loop-field.invariant ∙ ap (λ fs. map (λ f. f.number) (map field_view fs)) (all_taken c.args.fields.now c.loop-field.field-index (omega arith)))
      c.sort_unstable.ensures.permutation;
  rising = IsNonDecreasingBy-from_sort (λ x. x) _ c.sort_unstable.ensures.sorted;
}
