use Rattle.pb_listing.proofs.NestedLemmas.{AreLeft}
use Rattle.pb_text.proofs.embedded.are_records.Given as goal

abbrev pub invariant-loop-item : goal.invariant-loop-item
invariant-loop-item l =
    goal.iterator-loop-item.can_next l.item-iterator × goal.iterator-loop-item.is_finite l.item-iterator × AreLeft l.fn.limits l.fn.bytes l.item-iterator
