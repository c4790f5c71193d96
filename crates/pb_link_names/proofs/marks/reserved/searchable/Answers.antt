use Rattle.std.proofs.Common.{◌∙◌, ap, sym, subst, rules}
use Rattle.std.specs.List.{list_any, list_all}
use Rattle.std.proofs.lemmas.List.{with_items_is}
use Rattle.std.proofs.lemmas.List.Sorted.{answers_always, list_any-IsPermutation}
use Rattle.pb_link_names.specs.MarkRules.{is_in_message_range, none_overlap, message_ranges_overlap}
use Rattle.pb_link_names.specs.Reserved.{Rises, is_filled}
use Rattle.pb_link_names.proofs.ReservedLemmas.{rises_sorted, filled_moved, overlap_moved}
use Rattle.pb_link_names.proofs.marks.reserved.searchable.Goals as goal
use Rattle.pb_link_names.proofs.marks.reserved.searchable.Goals.{After-sort_unstable_by_key}

sorted : (c : After-sort_unstable_by_key) → Rises (λ s. s.0) c.sort_unstable_by_key.new.self.items
sorted c = rises_sorted c.sort_unstable_by_key.new.self.items (c.sort_unstable_by_key.ensures.sorted (λ s. s.0) (answers_always _ _ _ (λ f a r q k. search rules)))

pub raise_ends-requires : goal.raise_ends-requires
raise_ends-requires c = subst (Rises (λ s. s.0)) (sym c.deref_mut.ensures.value) (sorted (goal.at.raise_ends-requires c).After-sort_unstable_by_key)

pub returns : goal.returns
returns c =
    let given = c.args.spans.items in
    let moved = c.sort_unstable_by_key.ensures.permutation in
    let ordered = c.sort_unstable_by_key.new.self.items in
    let rises = sorted (goal.at.returns c).After-sort_unstable_by_key in
    let kept = with_items_is c.sort_unstable_by_key.new.self c.raise_ends.new.spans (search rules) in
    record {
      starts = subst (Rises (λ s. s.0)) (sym kept) c.raise_ends.ensures.starts;
      ends = subst (Rises (λ s. s.1)) (sym kept) c.raise_ends.ensures.ends;
      same = λ n fits. ap (list_any (is_in_message_range n)) kept ∙ c.raise_ends.ensures.same n fits ∙ ap (list_any (is_in_message_range n)) c.deref_mut.ensures.value ∙ sym (list_any-IsPermutation (is_in_message_range n) given ordered moved);
      apart = λ filled.
          c.are_apart-are_apart.ensures (subst (Rises (λ s. s.0)) (sym c.deref.ensures.value) rises) (ap (list_all is_filled) c.deref.ensures.value ∙ filled_moved given ordered moved filled)
          ∙ ap (none_overlap message_ranges_overlap) c.deref.ensures.value ∙ overlap_moved given ordered moved filled;
      named = c.in_ok-names.ensures;
    }
