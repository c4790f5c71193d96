use Rattle.pb_listing.proofs.NestedLemmas.{left_after, no_text, some_text}
use Rattle.pb_text.proofs.embedded.are_records.Goals as goal

pub loop-item-init : goal.loop-item-init
loop-item-init c = (
  tt,
  tt,
  record {
    text = λ is. let given = c.new-item-items.ensures.text is.0 is.1 in (given.0, rw c.into_iter-item-iterator.ensures.into_iter_gives given.2);
    fault = λ f has. let given = c.new-item-items.ensures.fault f has in (given.0, rw c.into_iter-item-iterator.ensures.into_iter_gives given.2);
  },
)

pub loop-item-preserved : goal.loop-item-preserved
loop-item-preserved c = (
  tt,
  tt,
  left_after c.args.limits c.args.bytes.now c.loop-item.item-iterator c.next.new.self _ c.loop-item.invariant.2 (rw c.in-Ok.is at c.in-Some.ensures.steps),
)

pub returns-in_default-clause-no : goal.returns-in_default-clause-no
returns-in_default-clause-no c = λ is.
    no_text c.args.limits c.args.bytes.now c.loop-item.item-iterator c.next.new.self _ c.loop-item.invariant.2 (rw c.in_default.is at c.in-Some.ensures.steps)

pub returns-clause-yes : goal.returns-clause-yes
returns-clause-yes c = λ is.
    some_text c.args.limits c.args.bytes.now c.loop-item.item-iterator c.next.new.self c.new-item-items.ensures.settled c.loop-item.invariant.2 c.in-None.ensures.steps
