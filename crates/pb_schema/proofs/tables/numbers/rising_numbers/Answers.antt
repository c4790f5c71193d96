use Rattle.std.proofs.Common.{get_or, sym, ◌∙◌, ◌++◌, ◌∷◌, [], ap, subst, rules, arith}
use Rattle.std.specs.List.Sorted.{IsPermutation}
use Rattle.std.proofs.lemmas.List.Sorted.{IsNonDecreasingBy-from_sort_by_key}
use Rattle.pb_schema.proofs.NumberLemmas.{entries_from, entries-more, all_taken, table_exact}
use Rattle.pb_schema.proofs.tables.numbers.rising_numbers.Goals as goal

pub loop-index-preserved : goal.loop-index-preserved
loop-index-preserved c =
    let f = get_or c.args.fields.now c.loop-index.index c.index-fields-index.result in
    c.in_ok-push.ensures.items ∙ ap (λ l. l ++ (f.number, c.loop-index.index) ∷ []) c.loop-index.invariant ∙ sym (entries-more c.args.fields.now c.loop-index.index c.index-fields-index.result (omega arith))

pub returns : goal.returns
returns c = record {
  rising = IsNonDecreasingBy-from_sort_by_key (λ e. e.0) _ c.sort_unstable_by_key.ensures.sorted (λ a r q k. search rules);
  exact = table_exact c.args.fields.now _ (subst (λ l. IsPermutation l c.sort_unstable_by_key.new.self.items) (c.loop-index.invariant ∙ ap (entries_from 0) (all_taken c.args.fields.now c.loop-index.index (omega arith))) c.sort_unstable_by_key.ensures.permutation);
}
