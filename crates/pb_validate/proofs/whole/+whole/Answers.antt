use Rattle.std.proofs.Common.{◌∙◌, ◌-◌, ap, sym, refl, arith, [], None}
use Rattle.std.proofs.lemmas.Bool.{eqb-true}
use Rattle.pb_wire.specs.Record.{len}
use Rattle.pb_wire.specs.Sound.{Sound}
use Rattle.pb_schema.specs.Context.{schema_of}
use Rattle.pb_wire.specs.Scan.{here}
use Rattle.pb_validate.specs.Contexts.{context_view, reading_view}
use Rattle.pb_validate.proofs.HereLemmas.{payload_between}
use Rattle.pb_validate.proofs.JudgeLemmas.{front_none, front_push, number_value, message_sound}
use Rattle.pb_validate.proofs.WholeLemmas.{group_ended, fours, eights}
use Rattle.pb_validate.proofs.whole.+whole.Goals as goal

pub records_are_whole-loop-at-init : goal.records_are_whole-loop-at-init
records_are_whole-loop-at-init t c =
    (omega arith, [], front_none (schema_of c.args.pool.now) (context_view c.args.context) c.args.levels (here c.args.bytes.now 0 None))

pub records_are_whole-loop-at-preserved : goal.records_are_whole-loop-at-preserved
records_are_whole-loop-at-preserved t c =
    let value = c.in-Some.ensures.ok in
    (c.in-Some.ensures.within.1, _, front_push c.loop-at.invariant.1 value.0 c.loop-at.invariant.2 c.in-Ok.ensures.ok value.1)

pub group_end-loop-next-init : goal.group_end-loop-next-init
group_end-loop-next-init t c = (
  omega arith,
  c.requires.end_in_bounds,
  [],
  front_none (schema_of c.args.pool.now) (context_view c.group_context-inner.result) (c.args.levels - 1) (here c.args.bytes.now c.args.tag.end None),
)

pub group_end-loop-next-preserved : goal.group_end-loop-next-preserved
group_end-loop-next-preserved t c =
    let moved = c.in-Ok.ensures.within in
    let ended = c.in-Some.ensures.within in
    let value = c.in-Some.ensures.ok in (
      let h = c.loop-next.invariant.0 in omega (arith, h, moved, ended),
      ended.1,
      _,
      front_push c.loop-next.invariant.2 value.0 c.loop-next.invariant.3 c.in-Ok.ensures.ok value.1,
    )

pub group_end-returns-then-next-eq4-clause-ok : goal.group_end-returns-then-next-eq4-clause-ok
group_end-returns-then-next-eq4-clause-ok t c =
    group_ended (schema_of c.args.pool.now) (context_view c.args.context) _ c.args.levels c.args.tag.number c.in-Ok.next.number c.in-Ok.next.wire_type
    (here c.args.bytes.now c.args.tag.end None) _ (here c.args.bytes.now c.in-Ok.next.end None) c.loop-next.invariant.2 (omega (arith, c.if-levels-eq0.false))
    c.group_context-inner.ensures.read c.loop-next.invariant.3 c.in-Ok.ensures.ok c.if-next-eq4.true (c.in-Ok.ensures.ends c.if-next-eq4.true)

pub record_end-returns-then-payload_is_whole-clause-ok : goal.record_end-returns-then-payload_is_whole-clause-ok
record_end-returns-then-payload_is_whole-clause-ok t c =
    let w = c.in-Ok.ensures.within in
    rw c.if-tag-eq2.true (
      len _,
      record {
        type = refl;
        spelled = payload_between c.args.bytes.now c.args.tag.end _ _ None c.in-Ok.ensures.ok w.1 w.2 c.args.tag.number;
        sound = c.payload_is_whole.ensures c.if-payload_is_whole.true;
      },
    )

pub payload_is_whole-returns-in-Unread : goal.payload_is_whole-returns-in-Unread
payload_is_whole-returns-in-Unread t c = λ _. Sound.some_bytes (sym c.reading_of.ensures.read ∙ ap reading_view c.in-Unread.is)

pub payload_is_whole-returns-in-Text : goal.payload_is_whole-returns-in-Text
payload_is_whole-returns-in-Text t c = λ e. Sound.a_text (sym c.reading_of.ensures.read ∙ ap reading_view c.in-Text.is) (c.is_text.ensures e)

pub payload_is_whole-returns-in-Packed-Varint : goal.payload_is_whole-returns-in-Packed-Varint
payload_is_whole-returns-in-Packed-Varint t c = λ e.
    Sound.a_list (rw c.in-Packed-Varint.field-0-is at (sym c.reading_of.ensures.read ∙ ap reading_view c.in-Packed-Varint.is)) (c.are_varints.ensures e)

pub payload_is_whole-returns-in-Packed-FourBytes : goal.payload_is_whole-returns-in-Packed-FourBytes
payload_is_whole-returns-in-Packed-FourBytes t c = λ e.
    Sound.a_list (rw c.in-Packed-FourBytes.field-0-is at (sym c.reading_of.ensures.read ∙ ap reading_view c.in-Packed-FourBytes.is)) (fours c.args.payload.now (eqb-true _ _ e))

pub payload_is_whole-returns-in-Packed-EightBytes : goal.payload_is_whole-returns-in-Packed-EightBytes
payload_is_whole-returns-in-Packed-EightBytes t c = λ e.
    Sound.a_list (rw c.in-Packed-EightBytes.field-0-is at (sym c.reading_of.ensures.read ∙ ap reading_view c.in-Packed-EightBytes.is)) (eights c.args.payload.now (eqb-true _ _ e))

pub payload_is_whole-returns-then-levels-gt0 : goal.payload_is_whole-returns-then-levels-gt0
payload_is_whole-returns-then-levels-gt0 t c = λ e.
    let h = c.are_whole.ensures e in
    message_sound (schema_of c.args.pool.now) (context_view c.args.context) (context_view c.in-Message.inner) c.args.levels c.args.number c.args.payload.now h.0
    (omega (arith, c.if-levels-gt0.true)) (sym c.reading_of.ensures.read ∙ ap reading_view c.in-Message.is) h.1 h.2

pub payload_is_whole-returns-in-SameLevel : goal.payload_is_whole-returns-in-SameLevel
payload_is_whole-returns-in-SameLevel t c = λ e.
    let h = c.are_whole-in-SameLevel.ensures e in Sound.a_value (sym c.reading_of.ensures.read ∙ ap reading_view c.in-SameLevel.is) h.1 h.2

pub record_end-returns-in_ok-end-clause-ok : goal.record_end-returns-in_ok-end-clause-ok
record_end-returns-in_ok-end-clause-ok t c =
    number_value (schema_of c.args.pool.now) (context_view c.args.context) c.args.levels c.args.tag.number c.args.tag.wire_type (here c.args.bytes.now c.args.tag.end None)
    (here c.args.bytes.now c.in_ok-end.end None) c.in_ok-end.ensures.ok
