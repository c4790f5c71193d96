use Rattle.std.proofs.Common.{◌∙◌, sym, arith}
use Rattle.pb_output.proofs.HexParts.{encode_lower-nil}
use Rattle.pb_listing.proofs.Borrowing.{full_text, text_inside, none_put, next_put, last_put, no_fault_put}
use Rattle.pb_listing.proofs.Lines.{shortest-more, shortest-parts, shortest-group, shortest-varint, shortest-fixed64, shortest-fixed32, shortest-len}
use Rattle.pb_output.proofs.SinkLemmas.{puts_lost, puts_none, puts_then}
use Rattle.pb_listing.proofs.shortest.+shortest.Goals as goal

pub put_records-loop-item-init : goal.put_records-loop-item-init
put_records-loop-item-init g t c = (
  tt,
  tt,
  λ rs text.
      let given = c.new-item-items.ensures.text rs (full_text c.args.level c.args.bytes.now rs text) in
      none_put c.args.level rs _ c.into_iter-item-iterator.result c.args.bytes.now text
      (given.0, given.1, rw c.into_iter-item-iterator.ensures.into_iter_gives given.2) (rw encode_lower-nil puts_none),
)

pub put_records-loop-item-preserved : goal.put_records-loop-item-preserved
put_records-loop-item-preserved g t c = (
  tt,
  tt,
  λ rs text.
      let before = c.loop-item.invariant.2 rs text in
      let step = rw c.in-Ok.is at c.in-Some.ensures.steps in
      let next = next_put c.args.level rs _ c.loop-item.item-iterator c.next.new.self (c.in-Ok.number, c.in-Ok.payload) before step in
      let more = puts_then before.so_far (c.put_record.ensures next.it next.is) in
      next.again _ (rw (shortest-more before.done next.it) more),
)

pub put_records-returns-in-None : goal.put_records-returns-in-None
put_records-returns-in-None g t c = λ rs text. last_put c.args.level rs _ c.loop-item.item-iterator c.next.new.self (c.loop-item.invariant.2 rs text) c.in-None.ensures.steps

pub put_records-returns-in_default : goal.put_records-returns-in_default
put_records-returns-in_default g t c = λ rs text.
    let step = rw c.in_default.is at c.in-Some.ensures.steps in
    absurd (no_fault_put c.args.level rs _ c.loop-item.item-iterator c.next.new.self c.in_default.field-0 (c.loop-item.invariant.2 rs text) step)

pub put_record-returns-in-Group : goal.put_record-returns-in-Group
put_record-returns-in-Group g t c = λ r is.
    let inside = text_inside c.args.level c.args.number r c.in-Group.field-0.now (rw c.in-Group.is at is) in
    absurd (omega (arith, inside.2, c.if-level-eq-MAX_DEPTH.true))

pub put_records-returns-then-has_failed : goal.put_records-returns-then-has_failed
put_records-returns-then-has_failed g t c = λ rs text.
    let before = c.loop-item.invariant.2 rs text in
    rw (shortest-parts rs before.done before.left before.joined) (puts_then before.so_far (puts_lost (sym c.has_failed.ensures ∙ c.if-has_failed.true)))

pub put_record-returns-in-Varint : goal.put_record-returns-in-Varint
put_record-returns-in-Varint g t c = λ r is.
    let shown = rw c.in-Varint.is at is in
    rw (shortest-varint c.args.number c.in-Varint.value r is.shown.number shown.shown.payload) (puts_then c.put_tag.ensures c.put_number.ensures)

pub put_record-returns-in-I64 : goal.put_record-returns-in-I64
put_record-returns-in-I64 g t c = λ r is.
    let shown = rw c.in-I64.is at is in
    rw (shortest-fixed64 c.args.number c.in-I64.value r is.shown.number shown.shown.payload)
    (puts_then c.put_tag-in-I64.ensures (rw c.to_le_bytes.ensures at c.put_hex.ensures))

pub put_record-returns-in-I32 : goal.put_record-returns-in-I32
put_record-returns-in-I32 g t c = λ r is.
    let shown = rw c.in-I32.is at is in
    rw (shortest-fixed32 c.args.number c.in-I32.value r is.shown.number shown.shown.payload)
    (puts_then c.put_tag-in-I32.ensures (rw c.to_le_bytes-in-I32.ensures at c.put_hex-in-I32.ensures))

pub put_record-returns-in-Len : goal.put_record-returns-in-Len
put_record-returns-in-Len g t c = λ r is.
    let shown = rw c.in-Len.is at is in
    rw (shortest-len c.args.number c.in-Len.bytes.now r is.shown.number shown.shown.payload)
    (puts_then (puts_then c.put_tag-in-Len.ensures c.put_number-in-Len.ensures) c.put_hex-in-Len.ensures)

pub put_record-returns-in-Group-2 : goal.put_record-returns-in-Group-2
put_record-returns-in-Group-2 g t c = λ r is.
    let inside = text_inside c.args.level c.args.number r c.in-Group-2.inside.now (rw c.in-Group-2.is at is) in
    rw (shortest-group c.args.number r inside.0 is.shown.number inside.1)
    (puts_then (puts_then c.put_tag-in-Group-2.ensures (c.put_records.ensures inside.0 inside.3)) c.put_tag-in-Group-2-2.ensures)
