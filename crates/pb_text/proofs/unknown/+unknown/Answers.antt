use Rattle.std.proofs.Common.{drop_of_length-le, ◌++◌, add-one, arith, refl, codes, decimal}
use Rattle.pb_wire.proofs.UnknownLemmas.{payload_of-Group, payload_of-I32, payload_of-I64, payload_of-Varint}
use Rattle.pb_output.proofs.SinkLemmas.{puts_then}
use Rattle.pb_text.specs.Lines.{item}
use Rattle.pb_text.specs.Unknown.{a_group, a_varint, eight_bytes, four_bytes}
use Rattle.pb_text.proofs.PartLemmas.{begun_end, begun_more, begun_start}
use Rattle.pb_text.proofs.UnknownLemmas.{records_deep, records_join, records_none}
use Rattle.pb_text.proofs.unknown.+unknown.Goals as goal

pub put_records-loop-number-init : goal.put_records-loop-number-init
put_records-loop-number-init g t c = λ within. begun_start _ _ _ within

pub put_records-loop-number-preserved : goal.put_records-loop-number-preserved
put_records-loop-number-preserved g t c = λ within.
    begun_more _ _ _ _ (c.loop-number.invariant within)
    (records_deep c.args.records.now c.loop-number.number-index c.loop-number-item.result c.loop-number-test.true c.loop-number-item.is)
    (records_join c.args.layout c.args.levels c.args.level c.args.records.now c.loop-number.number-index c.loop-number-item.result c.loop-number-test.true c.loop-number-item.is)
    c.put_record.ensures

pub put_records-returns : goal.put_records-returns
put_records-returns g t c = λ within.
    begun_end (c.loop-number.invariant within)
    (records_none c.args.layout c.args.levels c.args.level _ (drop_of_length-le c.args.records.now c.loop-number-test.false))

pub put_record-returns-in-Varint : goal.put_record-returns-in-Varint
put_record-returns-in-Varint g t c = λ within. rw (c.in-Varint.is, payload_of-Varint) (_, a_varint refl, c.put_varint_line.ensures)

pub put_record-returns-in-I64 : goal.put_record-returns-in-I64
put_record-returns-in-I64 g t c = λ within. rw (c.in-I64.is, payload_of-I64) (_, eight_bytes refl, c.put_eight_bytes_line.ensures)

pub put_record-returns-in-I32 : goal.put_record-returns-in-I32
put_record-returns-in-I32 g t c = λ within. rw (c.in-I32.is, payload_of-I32) (_, four_bytes refl, c.put_four_bytes_line.ensures)

pub put_record-returns-in-Group-2 : goal.put_record-returns-in-Group-2
put_record-returns-in-Group-2 g t c = λ within.
    let deep = rw (c.in-Group-2.is, payload_of-Group) at within in
    let records = c.in-Group-2.inside.items in
    let layout = c.args.layout in
    let put = rw (c.deref-in-Group-2.ensures.value, add-one, c.below.ensures) at c.put_records.ensures in
    let inside = put (omega (arith, deep)) in
    rw (c.in-Group-2.is, payload_of-Group) (
      item layout c.args.level (decimal c.args.number ++ codes " {") ++ inside.0 ++ item layout c.args.level (codes "}"),
      a_group {inside = inside.0} inside.1 refl,
      puts_then (puts_then c.put_numbered_start.ensures inside.2) c.put_end.ensures,
    )
