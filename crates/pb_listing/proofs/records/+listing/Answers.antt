use Rattle.std.proofs.Common.{◌∙◌, sym, arith, []}
use Rattle.pb_listing.proofs.Borrowing.{full_text, text_inside, none_put, next_put, last_put, no_fault_put}
use Rattle.pb_listing.proofs.Lines.{lines-more, lines-parts, record_lines-group}
use Rattle.pb_output.proofs.SinkLemmas.{puts_lost, puts_none, puts_then}
use Rattle.pb_listing.proofs.records.+listing.Goals as goal

pub put_listing-loop-item-init : goal.put_listing-loop-item-init
put_listing-loop-item-init g t c = (
  tt,
  tt,
  λ rs text.
      let given = c.new-item-items.ensures.text rs (full_text c.args.level c.args.bytes.now rs text) in
      none_put c.args.level rs _ c.into_iter-item-iterator.result c.args.bytes.now text
      (given.0, given.1, rw c.into_iter-item-iterator.ensures.into_iter_gives given.2) puts_none,
)

pub put_listing-loop-item-preserved : goal.put_listing-loop-item-preserved
put_listing-loop-item-preserved g t c = (
  tt,
  tt,
  λ rs text.
      let before = c.loop-item.invariant.2 rs text in
      let step = rw c.in-Ok.is at c.in-Some.ensures.steps in
      let next = next_put c.args.level rs _ c.loop-item.item-iterator c.next.new.self (c.in-Ok.number, c.in-Ok.payload) before step in
      let more = puts_then before.so_far (c.put_record_lines.ensures next.it next.is) in
      next.again _ (rw (lines-more c.args.level before.done next.it) more),
)

pub put_listing-returns-in-None : goal.put_listing-returns-in-None
put_listing-returns-in-None g t c = λ rs text. last_put c.args.level rs _ c.loop-item.item-iterator c.next.new.self (c.loop-item.invariant.2 rs text) c.in-None.ensures.steps

pub put_listing-returns-in_default : goal.put_listing-returns-in_default
put_listing-returns-in_default g t c = λ rs text.
    let step = rw c.in_default.is at c.in-Some.ensures.steps in
    absurd (no_fault_put c.args.level rs _ c.loop-item.item-iterator c.next.new.self c.in_default.field-0 (c.loop-item.invariant.2 rs text) step)

pub put_record_lines-returns-in-Group : goal.put_record_lines-returns-in-Group
put_record_lines-returns-in-Group g t c = λ r is.
    let inside = text_inside c.args.level c.args.number r c.in-Group.field-0.now (rw c.in-Group.is at is) in
    absurd (omega (arith, inside.2, c.if-level.true))

pub put_record_lines-returns-in-Group-2 : goal.put_record_lines-returns-in-Group-2
put_record_lines-returns-in-Group-2 g t c = λ r is.
    let inside = text_inside c.args.level c.args.number r c.in-Group-2.inside.now (rw c.in-Group-2.is at is) in
    let lines = c.put_listing.ensures inside.0 inside.3 in
    rw (record_lines-group [] c.args.level c.args.number r inside.0 is.shown.number inside.1)
    (puts_then (puts_then c.put_group_start.ensures lines) c.put_end.ensures)

pub put_listing-returns-then-has_failed : goal.put_listing-returns-then-has_failed
put_listing-returns-then-has_failed g t c = λ rs text.
    let before = c.loop-item.invariant.2 rs text in
    rw (lines-parts c.args.level rs before.done before.left before.joined) (puts_then before.so_far (puts_lost (sym c.has_failed.ensures ∙ c.if-has_failed.true)))
