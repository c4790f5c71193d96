use Rattle.pb_listing.proofs.NestedLemmas.{AreLeft}
use Rattle.pb_listing.proofs.nested.is_list_of_records.Given as goal

abbrev pub invariant-loop-item : goal.invariant-loop-item
invariant-loop-item l =
    goal.iterator-loop-item.can_next l.item-iterator × goal.iterator-loop-item.is_finite l.item-iterator × AreLeft l.fn.limits l.fn.bytes l.item-iterator
