use Rattle.std.proofs.Common.{ℕ, List, rules, arith, append_assoc, ap}
use Rattle.pb_wire.specs.Varint.{shortest}
use Rattle.pb_wire.specs.Spell.{shortest_records}
use Rattle.pb_wire.specs.Unknown.{records_of}
use Rattle.pb_wire.specs.declared.unknown.Unknown.{Unknown}
use Rattle.pb_wire.proofs.UnknownLemmas.{payload_of-Varint, payload_of-I64, payload_of-I32, payload_of-Len, payload_of-Group}
use Rattle.pb_wire.proofs.WritingLemmas.{in_range_more, in_range_group, written_more, wrote_three}
use Rattle.pb_wire.proofs.writing.+push.Goals as goal

pub push_records-loop-number-preserved : goal.push_records-loop-number-preserved
push_records-loop-number-preserved t c = record {
  pushed = written_more c.args.records.now c.loop-number.number-index c.loop-number-item.result _ c.loop-number.out.items _ c.loop-number-test.true
      (rw (← c.loop-number-item.is) c.in_ok-push_record.ensures.pushed) c.loop-number.invariant.pushed;
  ranges = in_range_more c.args.records.now c.loop-number.number-index c.loop-number-item.result c.loop-number-test.true c.loop-number.invariant.ranges
      (rw (← c.loop-number-item.is) c.in_ok-push_record.ensures.ranges);
}

pub push_record-returns-in_ok-push_varint-in-Varint-2-clause-pushed : goal.push_record-returns-in_ok-push_varint-in-Varint-2-clause-pushed
push_record-returns-in_ok-push_varint-in-Varint-2-clause-pushed t c =
    rw (c.in-Varint.is, payload_of-Varint, c.in_ok-push_varint-in-Varint-2.ensures, c.in_ok-push_varint-in-Varint.ensures) (search (rules, append_assoc))

pub push_record-returns-in_ok-push_varint-in-Varint-2-clause-ranges : goal.push_record-returns-in_ok-push_varint-in-Varint-2-clause-ranges
push_record-returns-in_ok-push_varint-in-Varint-2-clause-ranges t c = rw (c.in-Varint.is, payload_of-Varint) (omega arith)

pub push_record-returns-in_ok-extend_from_slice-in-I64-clause-pushed : goal.push_record-returns-in_ok-extend_from_slice-in-I64-clause-pushed
push_record-returns-in_ok-extend_from_slice-in-I64-clause-pushed t c =
    rw (c.in-I64.is, payload_of-I64, c.in_ok-extend_from_slice-in-I64.ensures.items, c.in_ok-push_varint-in-I64.ensures) (search (rules, append_assoc))

pub push_record-returns-in_ok-extend_from_slice-in-I64-clause-ranges : goal.push_record-returns-in_ok-extend_from_slice-in-I64-clause-ranges
push_record-returns-in_ok-extend_from_slice-in-I64-clause-ranges t c = rw (c.in-I64.is, payload_of-I64) (omega arith)

pub push_record-returns-in_ok-extend_from_slice-in-I32-clause-pushed : goal.push_record-returns-in_ok-extend_from_slice-in-I32-clause-pushed
push_record-returns-in_ok-extend_from_slice-in-I32-clause-pushed t c =
    rw (c.in-I32.is, payload_of-I32, c.in_ok-extend_from_slice-in-I32.ensures.items, c.in_ok-push_varint-in-I32.ensures) (search (rules, append_assoc))

pub push_record-returns-in_ok-extend_from_slice-in-I32-clause-ranges : goal.push_record-returns-in_ok-extend_from_slice-in-I32-clause-ranges
push_record-returns-in_ok-extend_from_slice-in-I32-clause-ranges t c = rw (c.in-I32.is, payload_of-I32) (omega arith)

pub push_record-returns-in_ok-push_bytes-in-Len-clause-pushed : goal.push_record-returns-in_ok-push_bytes-in-Len-clause-pushed
push_record-returns-in_ok-push_bytes-in-Len-clause-pushed t c =
    rw (c.in-Len.is, payload_of-Len, c.in_ok-push_bytes-in-Len.ensures.pushed, c.in_ok-push_varint-in-Len-2.ensures, c.in_ok-push_varint-in-Len.ensures)
    (wrote_three c.args.out.now.items _ _ _ _ _ _ (ap shortest (omega arith)) (ap shortest (omega (arith, c.in-Len.bytes.ok.0))) c.deref.ensures.value)

pub push_record-returns-in_ok-push_bytes-in-Len-clause-ranges : goal.push_record-returns-in_ok-push_bytes-in-Len-clause-ranges
push_record-returns-in_ok-push_bytes-in-Len-clause-ranges t c =
    rw (c.in-Len.is, payload_of-Len) (rw c.deref.ensures.value at c.in_ok-push_bytes-in-Len.ensures.ranges)

pub push_record-returns-in_ok-push_varint-in-Group-2-clause-pushed : goal.push_record-returns-in_ok-push_varint-in-Group-2-clause-pushed
push_record-returns-in_ok-push_varint-in-Group-2-clause-pushed t c =
    rw (c.in-Group.is, payload_of-Group, c.in_ok-push_varint-in-Group-2.ensures, c.in_ok-push_records-in-Group.ensures.pushed, c.in_ok-push_varint-in-Group.ensures)
    (wrote_three c.args.out.now.items _ _ _ _ _ _ (ap shortest (omega arith)) (ap (λ (xs : List (ℕ × Unknown)). shortest_records (records_of xs)) c.deref-in-Group.ensures.value) (ap shortest (omega arith)))

pub push_record-returns-in_ok-push_varint-in-Group-2-clause-ranges : goal.push_record-returns-in_ok-push_varint-in-Group-2-clause-ranges
push_record-returns-in_ok-push_varint-in-Group-2-clause-ranges t c =
    rw (c.in-Group.is, payload_of-Group) (in_range_group _ (rw c.deref-in-Group.ensures.value at c.in_ok-push_records-in-Group.ensures.ranges))
