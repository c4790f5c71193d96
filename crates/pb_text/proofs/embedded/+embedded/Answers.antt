use Rattle.std.proofs.Common.{◌++◌, ◌∷◌, ◌-◌, ◌≡◌, ℕ, [], arith, codes, decimal, refl, subst, add-one}
use Rattle.pb_wire.specs.Record.{Record, group_of}
use Rattle.pb_wire.specs.Record as wire
use Rattle.pb_listing.proofs.Borrowing.{full_text, none_put, next_put, last_put, no_fault_put}
use Rattle.pb_output.proofs.SinkLemmas.{puts_none, puts_then}
use Rattle.pb_text.specs.Lines.{item}
use Rattle.pb_text.specs.Unknown.{AreRecordsLines, a_group, a_message, a_string, a_varint, eight_bytes, four_bytes, no_lines}
use Rattle.pb_text.proofs.UnknownLemmas.{embedded_more, group_inside, no_levels, record_as}
use Rattle.pb_text.proofs.embedded.+embedded.Goals as goal

pub put_embedded-loop-item-init : goal.put_embedded-loop-item-init
put_embedded-loop-item-init g t c = (
  tt,
  tt,
  λ rs text.
      let given = c.new-item-items.ensures.text rs (full_text (100 - c.args.levels) c.args.bytes.now rs text) in
      none_put (100 - c.args.levels) rs _ c.into_iter-item-iterator.result c.args.bytes.now text
      (given.0, given.1, rw c.into_iter-item-iterator.ensures.into_iter_gives given.2) ([], no_lines refl, puts_none),
)

pub put_embedded-loop-item-preserved : goal.put_embedded-loop-item-preserved
put_embedded-loop-item-preserved g t c = (
  tt,
  tt,
  λ rs text.
      let before = c.loop-item.invariant.2 rs text in
      let step = rw c.in-Ok.is at c.in-Some.ensures.steps in
      let next = next_put (100 - c.args.levels) rs _ c.loop-item.item-iterator c.next.new.self (c.in-Ok.number, c.in-Ok.payload) before step in
      let so_far = before.so_far in
      let more = c.put_embedded_record.ensures next.it next.is in
      next.again _ (
        so_far.0 ++ more.0,
        embedded_more c.args.layout (c.args.levels - 1) c.args.level before.done next.it so_far.0 more.0 so_far.1 more.1,
        puts_then so_far.2 more.2,
      ),
)

pub put_embedded-returns-in-None : goal.put_embedded-returns-in-None
put_embedded-returns-in-None g t c = λ rs text.
    last_put (100 - c.args.levels) rs _ c.loop-item.item-iterator c.next.new.self (c.loop-item.invariant.2 rs text) c.in-None.ensures.steps

pub put_embedded-returns-in_default : goal.put_embedded-returns-in_default
put_embedded-returns-in_default g t c = λ rs text.
    let step = rw c.in_default.is at c.in-Some.ensures.steps in
    absurd (no_fault_put (100 - c.args.levels) rs _ c.loop-item.item-iterator c.next.new.self c.in_default.field-0 (c.loop-item.invariant.2 rs text) step)

pub put_embedded_record-returns-in-Varint : goal.put_embedded_record-returns-in-Varint
put_embedded_record-returns-in-Varint g t c = λ r is.
    let shown = (rw c.in-Varint.is at is).shown in (
      _,
      record_as c.args.layout (c.args.levels - 1) c.args.level r c.args.number (wire.varint c.in-Varint.value) _ shown.number shown.payload (a_varint refl),
      c.put_varint_line.ensures,
    )

pub put_embedded_record-returns-in-I64 : goal.put_embedded_record-returns-in-I64
put_embedded_record-returns-in-I64 g t c = λ r is.
    let shown = (rw c.in-I64.is at is).shown in (
      _,
      record_as c.args.layout (c.args.levels - 1) c.args.level r c.args.number (wire.fixed64 c.in-I64.value) _ shown.number shown.payload (eight_bytes refl),
      c.put_eight_bytes_line.ensures,
    )

pub put_embedded_record-returns-in-I32 : goal.put_embedded_record-returns-in-I32
put_embedded_record-returns-in-I32 g t c = λ r is.
    let shown = (rw c.in-I32.is at is).shown in (
      _,
      record_as c.args.layout (c.args.levels - 1) c.args.level r c.args.number (wire.fixed32 c.in-I32.value) _ shown.number shown.payload (four_bytes refl),
      c.put_four_bytes_line.ensures,
    )

pub put_embedded_record-returns-in-Len : goal.put_embedded_record-returns-in-Len
put_embedded_record-returns-in-Len g t c = λ r is.
    let shown = (rw c.in-Len.is at is).shown in
    let none : c.args.levels - 1 ≡ 0 = omega arith in (
      _,
      record_as c.args.layout (c.args.levels - 1) c.args.level r c.args.number (wire.len c.in-Len.bytes.now) _ shown.number shown.payload
          (a_string (no_levels (c.args.levels - 1) c.in-Len.bytes.now none) refl),
      c.put_string_line.ensures,
    )

pub put_embedded_record-returns-in-Len-2 : goal.put_embedded_record-returns-in-Len-2
put_embedded_record-returns-in-Len-2 g t c = λ r is.
    let shown = (rw c.in-Len-2.is at is).shown in
    let put = c.put_payload.ensures in (
      put.0,
      record_as c.args.layout (c.args.levels - 1) c.args.level r c.args.number (wire.len c.in-Len-2.bytes.now) put.0 shown.number shown.payload put.1,
      put.2,
    )

pub put_embedded_record-returns-in-Group : goal.put_embedded_record-returns-in-Group
put_embedded_record-returns-in-Group g t c = λ r is.
    let inside = group_inside c.args.levels c.args.number r c.in-Group.field-0.now c.requires.few (rw c.in-Group.is at is) in
    absurd (omega (arith, inside.2, c.if-levels-eq0-2.true))

pub put_embedded_record-returns-in-Group-2 : goal.put_embedded_record-returns-in-Group-2
put_embedded_record-returns-in-Group-2 g t c = λ r is.
    let borrowed = rw c.in-Group-2.is at is in
    let group = group_inside c.args.levels c.args.number r c.in-Group-2.inside.now c.requires.few borrowed in
    let inside = c.put_embedded.ensures group.0 group.3 in
    let layout = c.args.layout in (
      item layout c.args.level (decimal c.args.number ++ codes " {") ++ inside.0 ++ item layout c.args.level (codes "}"),
      record_as layout (c.args.levels - 1) c.args.level r c.args.number (wire.group (group_of group.0)) _ borrowed.shown.number group.1
          (a_group {inside = inside.0} (subst (λ (l : ℕ). AreRecordsLines layout ((c.args.levels - 1) - 1) l (group_of group.0) inside.0) (add-one c.args.level) inside.1) refl),
      puts_then (puts_then c.put_numbered_start.ensures inside.2) c.put_end.ensures,
    )

pub put_payload-returns-then-is_embedded : goal.put_payload-returns-then-is_embedded
put_payload-returns-then-is_embedded g t c =
    let message = c.if-is_embedded.ensures.yes refl in
    let rs = message.1.0 ∷ message.1.1 in
    let inside = c.put_embedded.ensures rs message.1.2 in
    let layout = c.args.layout in (
      item layout c.args.level (decimal c.args.number ++ codes " {") ++ inside.0 ++ item layout c.args.level (codes "}"),
      a_message {inside = inside.0} {r = message.1.0} {rs = message.1.1} message.0 message.1.2
          (subst (λ (l : ℕ). AreRecordsLines layout (c.args.levels - 1) l (group_of rs) inside.0) (add-one c.args.level) inside.1) refl,
      puts_then (puts_then c.put_numbered_start.ensures inside.2) c.put_end.ensures,
    )

pub put_payload-returns-else-is_embedded : goal.put_payload-returns-else-is_embedded
put_payload-returns-else-is_embedded g t c = (_, a_string (c.if-is_embedded.ensures.no refl) refl, c.put_string_line.ensures)
