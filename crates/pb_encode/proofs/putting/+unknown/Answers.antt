use Rattle.std.proofs.Common.{ℕ, List, ap, sym, ◌∙◌, drop_of_length-le}
use Rattle.pb_wire.specs.Spell.{shortest_records}
use Rattle.pb_wire.specs.Unknown.{records_of}
use Rattle.pb_wire.specs.declared.unknown.Unknown.{Unknown}
use Rattle.pb_wire.proofs.UnknownLemmas.{payload_of-I32, payload_of-Group}
use Rattle.pb_output.proofs.SinkLemmas.{puts_then}
use Rattle.pb_encode.proofs.PutLemmas.{to_put_start, to_put_done, to_put_lost, to_put_record}
use Rattle.pb_encode.proofs.putting.+unknown.Goals as goal

pub put_unknown-returns-in-Group : goal.put_unknown-returns-in-Group
put_unknown-returns-in-Group g t c = rw (c.in-Group.is, payload_of-Group) (rw c.deref-in-Group.ensures.value at c.put_group.ensures)

pub put_unknown-returns-in-I32 : goal.put_unknown-returns-in-I32
put_unknown-returns-in-I32 g t c = rw (c.in-I32.is, payload_of-I32) c.put_fixed32_record.ensures

pub put_group-returns : goal.put_group-returns
put_group-returns g t c = puts_then (puts_then c.put_tag.ensures c.put_unknowns.ensures) c.put_tag-2.ensures

pub put_unknowns-loop-number-init : goal.put_unknowns-loop-number-init
put_unknowns-loop-number-init g t c = to_put_start _

pub put_unknowns-returns-then-has_failed : goal.put_unknowns-returns-then-has_failed
put_unknowns-returns-then-has_failed g t c = to_put_lost c.loop-number.invariant (sym c.has_failed.ensures ∙ c.if-has_failed.true)

pub put_unknowns-loop-number-preserved : goal.put_unknowns-loop-number-preserved
put_unknowns-loop-number-preserved g t c =
    to_put_record c.args.records.now c.loop-number.number-index c.loop-number-item.result c.loop-number-test.true c.loop-number.invariant (rw (← c.loop-number-item.is) c.put_unknown.ensures)

pub put_unknowns-returns : goal.put_unknowns-returns
put_unknowns-returns g t c =
    to_put_done c.loop-number.invariant (ap (λ (l : List (ℕ × Unknown)). shortest_records (records_of l)) (drop_of_length-le c.args.records.now c.loop-number-test.false))
