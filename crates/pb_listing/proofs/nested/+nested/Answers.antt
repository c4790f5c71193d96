use Rattle.std.proofs.Common.{◌++◌, ◌∷◌, ℕ, [], arith, codes, decimal, length, refl, sym, subst, add-one}
use Rattle.pb_wire.specs.Grammar.{IsText}
use Rattle.pb_wire.specs.Record.{len}
use Rattle.pb_wire.specs.Schema.{blank}
use Rattle.pb_listing.specs.Borrowed.{limits_inside}
use Rattle.pb_listing.specs.NestedListing.{no_lines}
use Rattle.pb_listing.specs.RawListing.{line, record_lines}
use Rattle.pb_listing.proofs.Borrowing.{full_text, text_inside, none_put, next_put, last_put, no_fault_put}
use Rattle.pb_listing.proofs.NestedLemmas.{bytes_lines_of, eight_lines_of, four_lines_of, group_lines_of, message_lines_of, nested_more, varint_lines_of}
use Rattle.pb_output.proofs.SinkLemmas.{puts_none, puts_then}
use Rattle.pb_listing.proofs.nested.+nested.Goals as goal

pub put_nested-loop-item-init : goal.put_nested-loop-item-init
put_nested-loop-item-init g t c = (
  tt,
  tt,
  λ rs text.
      let given = c.new-item-items.ensures.text rs (full_text c.args.level c.args.bytes.now rs text) in
      none_put c.args.level rs _ c.into_iter-item-iterator.result c.args.bytes.now text
      (given.0, given.1, rw c.into_iter-item-iterator.ensures.into_iter_gives given.2) ([], no_lines refl, puts_none),
)

pub put_nested-loop-item-preserved : goal.put_nested-loop-item-preserved
put_nested-loop-item-preserved g t c = (
  tt,
  tt,
  λ rs text.
      let before = c.loop-item.invariant.2 rs text in
      let step = rw c.in-Ok.is at c.in-Some.ensures.steps in
      let next = next_put c.args.level rs _ c.loop-item.item-iterator c.next.new.self (c.in-Ok.number, c.in-Ok.payload) before step in
      let so_far = before.so_far in
      let more = c.put_nested_record.ensures next.it next.is in
      next.again _
      (so_far.0 ++ more.0, nested_more c.args.level before.done next.it so_far.0 more.0 so_far.1 more.1, puts_then so_far.2 more.2),
)

pub put_nested-returns-in-None : goal.put_nested-returns-in-None
put_nested-returns-in-None g t c = λ rs text. last_put c.args.level rs _ c.loop-item.item-iterator c.next.new.self (c.loop-item.invariant.2 rs text) c.in-None.ensures.steps

pub put_nested-returns-in_default : goal.put_nested-returns-in_default
put_nested-returns-in_default g t c = λ rs text.
    let step = rw c.in_default.is at c.in-Some.ensures.steps in
    absurd (no_fault_put c.args.level rs _ c.loop-item.item-iterator c.next.new.self c.in_default.field-0 (c.loop-item.invariant.2 rs text) step)

pub put_nested_record-returns-in-Group : goal.put_nested_record-returns-in-Group
put_nested_record-returns-in-Group g t c = λ r is.
    let inside = text_inside c.args.level c.args.number r c.in-Group.field-0.now (rw c.in-Group.is at is) in
    absurd (omega (arith, inside.2, c.if-level.true))

pub put_nested_record-returns-in-Group-2 : goal.put_nested_record-returns-in-Group-2
put_nested_record-returns-in-Group-2 g t c = λ r is.
    let group = text_inside c.args.level c.args.number r c.in-Group-2.inside.now (rw c.in-Group-2.is at is) in
    let inside = c.put_nested.ensures group.0 group.3 in (
      line c.args.level (decimal c.args.number ++ codes " group {") ++ inside.0 ++ line c.args.level (codes "}"),
      group_lines_of c.args.level c.args.number r group.0 inside.0 is.shown.number group.1 inside.1,
      puts_then (puts_then c.put_group_start.ensures inside.2) c.put_end.ensures,
    )

pub put_nested_record-returns-in-Len : goal.put_nested_record-returns-in-Len
put_nested_record-returns-in-Len g t c = λ r is. c.put_payload.ensures r (rw c.in-Len.is at is)

pub put_payload-returns-then-level : goal.put_payload-returns-then-level
put_payload-returns-then-level g t c = λ r is.
    let deepest = c.if-level.true in (
      record_lines [] c.args.level c.args.number (len c.args.bytes.now),
      bytes_lines_of c.args.level c.args.number r c.args.bytes.now is.shown.number is.shown.payload (λ message. let low = message.0 in omega (arith, low, deepest)),
      c.put_len_line.ensures,
    )

pub put_payload-returns-then-is_message : goal.put_payload-returns-then-is_message
put_payload-returns-then-is_message g t c = λ r is.
    let message = c.if-is_message.ensures.yes refl in
    let s = c.args.bytes.now in
    let text = subst (λ (l : ℕ). IsText blank tt (limits_inside l) s (message.1.0 ∷ message.1.1)) (sym (add-one c.args.level)) message.1.2 in
    let inside = c.put_nested.ensures (message.1.0 ∷ message.1.1) text in (
      line c.args.level (decimal c.args.number ++ codes " len " ++ decimal (length s) ++ codes " {") ++ inside.0 ++ line c.args.level (codes "}"),
      message_lines_of c.args.level c.args.number r s message.1.0 message.1.1 inside.0 is.shown.number is.shown.payload message.0 message.1.2 inside.1,
      puts_then (puts_then c.put_message_start.ensures inside.2) c.put_end.ensures,
    )

pub put_payload-returns-else-is_message : goal.put_payload-returns-else-is_message
put_payload-returns-else-is_message g t c = λ r is. (
  record_lines [] c.args.level c.args.number (len c.args.bytes.now),
  bytes_lines_of c.args.level c.args.number r c.args.bytes.now is.shown.number is.shown.payload (c.if-is_message.ensures.no refl),
  c.put_len_line-else-is_message.ensures,
)

pub put_nested_record-returns-in-Varint : goal.put_nested_record-returns-in-Varint
put_nested_record-returns-in-Varint g t c = λ r is. (
  record_lines [] c.args.level r.number r.payload,
  varint_lines_of c.args.level c.args.number c.in-Varint.field-0 r (rw c.in-Varint.is at is),
  c.put_record_lines.ensures r is,
)

pub put_nested_record-returns-in-I64 : goal.put_nested_record-returns-in-I64
put_nested_record-returns-in-I64 g t c = λ r is. (
  record_lines [] c.args.level r.number r.payload,
  eight_lines_of c.args.level c.args.number c.in-I64.field-0 r (rw c.in-I64.is at is),
  c.put_record_lines-in-I64.ensures r is,
)

pub put_nested_record-returns-in-I32 : goal.put_nested_record-returns-in-I32
put_nested_record-returns-in-I32 g t c = λ r is. (
  record_lines [] c.args.level r.number r.payload,
  four_lines_of c.args.level c.args.number c.in-I32.field-0 r (rw c.in-I32.is at is),
  c.put_record_lines-in-I32.ensures r is,
)
