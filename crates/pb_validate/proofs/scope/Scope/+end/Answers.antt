use Rattle.std.proofs.Common.{◌≡◌, ◌++◌, ◌∷◌, [], List, arith, ap, sym, subst, refl, ◌∙◌}
use Rattle.std.proofs.lemmas.Result.{err_from_is_err_and}
use Rattle.pb_wire.specs.Fault.{Place, step}
use Rattle.pb_wire.specs.Record.{Record, len}
use Rattle.pb_wire.specs.Schema.{records}
use Rattle.pb_wire.specs.Grammar.{Bad}
use Rattle.pb_wire.specs.Sound.{Sound}
use Rattle.pb_wire.specs.declared.fault.PathStep.{PathStep}
use Rattle.pb_wire.proofs.DepthLemmas.{sound_higher}
use Rattle.pb_schema.specs.Context.{schema_of}
use Rattle.pb_wire.specs.Scan.{here}
use Rattle.pb_validate.specs.Contexts.{context_view, reading_view, element_view}
use Rattle.pb_validate.specs.Judging.{open_view}
use Rattle.pb_validate.specs.Payloads.{MessageFault}
use Rattle.pb_validate.proofs.HereLemmas.{payload_between, payload_here}
use Rattle.pb_validate.proofs.JudgeLemmas.{ok_map, err_map, both_ok, refuses_map, blank_sound, front_none, front_push, records_between, group_value, number_value}
use Rattle.pb_validate.proofs.JudgeLemmas.{message_sound, message_whole, tag_refused, record_refused, some_fault, below_tag, group_too_deep, message_too_deep}
use Rattle.pb_validate.proofs.JudgeLemmas.{number_bad, group_bad, unread_bad, text_bad, list_bad, message_bad, value_bad}
use Rattle.pb_validate.proofs.scope.Scope.+end.Goals as goal

pub record_end-returns-then-self-eq0-clause-fault : goal.record_end-returns-then-self-eq0-clause-fault
record_end-returns-then-self-eq0-clause-fault t c =
    group_too_deep c.args.self.now.pool.now (open_view c.args.self.now) c.args.self.now.levels c.args.tag.number (here c.args.bytes.now c.args.tag.at c.args.self.now.to) (here c.args.bytes.now c.args.tag.end c.args.self.now.to) c.refused.result c.args.steps.now.items
    (rw c.if-tag-eq3.true at c.requires.is_tag) c.if-self-eq0.true c.requires.can.no_steps c.refused.ensures

pub record_end-returns-else-self-eq0-clause-fault : goal.record_end-returns-else-self-eq0-clause-fault
record_end-returns-else-self-eq0-clause-fault t c =
    err_map c.records_end.result _ _
    (λ e. below_tag c.args.self.now.pool.now (open_view c.args.self.now) c.args.self.now.levels c.args.tag.number (here c.args.bytes.now c.args.tag.at c.args.self.now.to) e c.records_end.new.steps.items _
    (group_bad c.args.self.now.pool.now c.args.self.now.group (context_view c.args.self.now.context) c.args.self.now.levels c.args.tag.number (here c.args.bytes.now c.args.tag.at c.args.self.now.to) (here c.args.bytes.now c.args.tag.end c.args.self.now.to) (omega (arith, c.if-self-eq0.false)) (rw c.if-tag-eq3.true at c.requires.is_tag)))
    (rw c.group_context.ensures.read at c.records_end.ensures.fault)

pub record_end-returns-else-self-eq0-clause-ok : goal.record_end-returns-else-self-eq0-clause-ok
record_end-returns-else-self-eq0-clause-ok t c =
    rw c.if-tag-eq3.true
    (ok_map c.records_end.result _ _
    (λ end h. group_value (schema_of c.args.self.now.pool.now) (context_view c.args.self.now.context) c.args.self.now.levels c.args.tag.number (here c.args.bytes.now c.args.tag.end c.args.self.now.to) (here c.args.bytes.now end c.args.self.now.to) (omega (arith, c.if-self-eq0.false)) h)
    (rw c.group_context.ensures.read at c.records_end.ensures.ok))

pub payload_end-returns-in_err-payload_at-in-Unread-clause-fault : goal.payload_end-returns-in_err-payload_at-in-Unread-clause-fault
payload_end-returns-in_err-payload_at-in-Unread-clause-fault t c =
    let p = err_from_is_err_and c.from_residual.result c.from_residual.ensures.1 in
    rw (p.1, p.2, c.requires.can.no_steps)
    (λ before. unread_bad c.args.self.now.pool.now c.args.self.now.group (context_view c.args.self.now.context) c.args.self.now.levels c.args.tag.number (here c.args.bytes.now c.args.tag.at c.args.self.now.to) (here c.args.bytes.now c.args.tag.end c.args.self.now.to) c.requires.is_tag (sym c.reading_of.ensures.read ∙ ap reading_view c.in-Unread.is) before _ c.in_err-payload_at-in-Unread.ensures.fault)

pub payload_end-returns-in_err-text_end-in-Text-clause-fault : goal.payload_end-returns-in_err-text_end-in-Text-clause-fault
payload_end-returns-in_err-text_end-in-Text-clause-fault t c =
    let p = err_from_is_err_and c.from_residual-in_err-text_end-in-Text.result c.from_residual-in_err-text_end-in-Text.ensures.1 in
    rw (p.1, p.2, c.requires.can.no_steps)
    (λ before. text_bad c.args.self.now.pool.now c.args.self.now.group (context_view c.args.self.now.context) c.args.self.now.levels c.args.tag.number (here c.args.bytes.now c.args.tag.at c.args.self.now.to) (here c.args.bytes.now c.args.tag.end c.args.self.now.to) c.requires.is_tag (sym c.reading_of.ensures.read ∙ ap reading_view c.in-Text.is) before _ c.in_err-text_end-in-Text.ensures.fault)

pub payload_end-returns-in_err-list_end-in-Packed-clause-fault : goal.payload_end-returns-in_err-list_end-in-Packed-clause-fault
payload_end-returns-in_err-list_end-in-Packed-clause-fault t c =
    let p = err_from_is_err_and c.from_residual-in_err-list_end-in-Packed.result c.from_residual-in_err-list_end-in-Packed.ensures.1 in
    rw (p.1, p.2, c.requires.can.no_steps)
    (λ before. list_bad c.args.self.now.pool.now c.args.self.now.group (context_view c.args.self.now.context) (element_view c.in-Packed.element) c.args.self.now.levels c.args.tag.number (here c.args.bytes.now c.args.tag.at c.args.self.now.to) (here c.args.bytes.now c.args.tag.end c.args.self.now.to) c.requires.is_tag (sym c.reading_of.ensures.read ∙ ap reading_view c.in-Packed.is) before _
    c.in_err-list_end-in-Packed.ensures.fault)

pub payload_end-returns-then-self-eq0-clause-fault : goal.payload_end-returns-then-self-eq0-clause-fault
payload_end-returns-then-self-eq0-clause-fault t c =
    message_too_deep c.args.self.now.pool.now c.args.self.now.group (context_view c.args.self.now.context) (context_view c.in-Message.context) c.args.self.now.levels c.args.tag.number (here c.args.bytes.now c.args.tag.at c.args.self.now.to) (here c.args.bytes.now c.args.tag.end c.args.self.now.to) c.refused.result c.args.steps.now.items
    c.requires.is_tag (sym c.reading_of.ensures.read ∙ ap reading_view c.in-Message.is) c.if-self-eq0.true c.requires.can.no_steps c.refused.ensures

pub payload_end-returns-in_ok-payload_at-in-Unread-clause-ok : goal.payload_end-returns-in_ok-payload_at-in-Unread-clause-ok
payload_end-returns-in_ok-payload_at-in-Unread-clause-ok t c =
    let w = c.in_ok-payload_at-in-Unread.ensures.within in (
      len _,
      record {
        type = refl;
        spelled = payload_between c.args.bytes.now c.args.tag.end _ _ c.args.self.now.to c.in_ok-payload_at-in-Unread.ensures.ok w.1 w.2 c.args.tag.number;
        sound = Sound.some_bytes (sym c.reading_of.ensures.read ∙ ap reading_view c.in-Unread.is);
      },
    )

pub payload_end-returns-in_ok-text_end-in-Text-clause-ok : goal.payload_end-returns-in_ok-text_end-in-Text-clause-ok
payload_end-returns-in_ok-text_end-in-Text-clause-ok t c =
    let h = c.in_ok-text_end-in-Text.ensures.ok in
    (len h.0, record { type = refl; spelled = h.2 c.args.tag.number; sound = Sound.a_text (sym c.reading_of.ensures.read ∙ ap reading_view c.in-Text.is) h.1 })

pub payload_end-returns-in_ok-list_end-in-Packed-clause-ok : goal.payload_end-returns-in_ok-list_end-in-Packed-clause-ok
payload_end-returns-in_ok-list_end-in-Packed-clause-ok t c =
    let h = c.in_ok-list_end-in-Packed.ensures.ok in
    (len h.0, record { type = refl; spelled = h.2 c.args.tag.number; sound = Sound.a_list (sym c.reading_of.ensures.read ∙ ap reading_view c.in-Packed.is) h.1 })

pub payload_end-returns-else-self-eq0-clause-ok : goal.payload_end-returns-else-self-eq0-clause-ok
payload_end-returns-else-self-eq0-clause-ok t c =
    ok_map c.message_end.result _ _
    (λ end h. (
      len h.0,
      record {
        type = refl;
        spelled = h.2 c.args.tag.number;
        sound = message_sound (schema_of c.args.self.now.pool.now) (context_view c.args.self.now.context) (context_view c.in-Message.context) c.args.self.now.levels c.args.tag.number h.0 h.1.0
            (omega (arith, c.if-self-eq0.false)) (sym c.reading_of.ensures.read ∙ ap reading_view c.in-Message.is) h.1.1 h.1.2;
      },
    ))
    c.message_end.ensures.ok

pub payload_end-returns-else-self-eq0-clause-fault : goal.payload_end-returns-else-self-eq0-clause-fault
payload_end-returns-else-self-eq0-clause-fault t c =
    err_map c.message_end.result _ _
    (λ e. below_tag c.args.self.now.pool.now (open_view c.args.self.now) c.args.self.now.levels c.args.tag.number (here c.args.bytes.now c.args.tag.at c.args.self.now.to) e c.message_end.new.steps.items _
    (message_bad c.args.self.now.pool.now c.args.self.now.group (context_view c.args.self.now.context) (context_view c.in-Message.context) c.args.self.now.levels c.args.tag.number (here c.args.bytes.now c.args.tag.at c.args.self.now.to) (here c.args.bytes.now c.args.tag.end c.args.self.now.to) (omega (arith, c.if-self-eq0.false)) c.requires.is_tag (sym c.reading_of.ensures.read ∙ ap reading_view c.in-Message.is)))
    c.message_end.ensures.fault

pub payload_end-returns-in-SameLevel-clause-ok : goal.payload_end-returns-in-SameLevel-clause-ok
payload_end-returns-in-SameLevel-clause-ok t c =
    ok_map c.message_end-in-SameLevel.result _ _
    (λ end h. (len h.0, record { type = refl; spelled = h.2 c.args.tag.number; sound = Sound.a_value (sym c.reading_of.ensures.read ∙ ap reading_view c.in-SameLevel.is) h.1.1 h.1.2 }))
    c.message_end-in-SameLevel.ensures.ok

pub payload_end-returns-in-SameLevel-clause-fault : goal.payload_end-returns-in-SameLevel-clause-fault
payload_end-returns-in-SameLevel-clause-fault t c =
    err_map c.message_end-in-SameLevel.result _ _
    (λ e. below_tag c.args.self.now.pool.now (open_view c.args.self.now) c.args.self.now.levels c.args.tag.number (here c.args.bytes.now c.args.tag.at c.args.self.now.to) e c.message_end-in-SameLevel.new.steps.items _
    (value_bad c.args.self.now.pool.now c.args.self.now.group (context_view c.args.self.now.context) (context_view c.in-SameLevel.context) c.args.self.now.levels c.args.tag.number (here c.args.bytes.now c.args.tag.at c.args.self.now.to) (here c.args.bytes.now c.args.tag.end c.args.self.now.to) c.requires.is_tag (sym c.reading_of.ensures.read ∙ ap reading_view c.in-SameLevel.is)))
    c.message_end-in-SameLevel.ensures.fault

pub message_end-returns-in_err-size-clause-fault : goal.message_end-returns-in_err-size-clause-fault
message_end-returns-in_err-size-clause-fault t c =
    let p = err_from_is_err_and c.from_residual.result c.from_residual.ensures.1 in
    rw (p.1, p.2, c.requires.no_steps) (MessageFault.a_length c.in_err-size.ensures.fault)

pub message_end-returns-clause-ok : goal.message_end-returns-clause-ok
message_end-returns-clause-ok t c =
    both_ok c.records_end.result _ _ _
    (λ end w all. message_whole (schema_of c.args.self.now.pool.now) (context_view c.args.self.now.context) c.args.self.now.levels c.args.bytes.now c.args.at c.in_ok-size.start c.in_ok-size.size end c.args.self.now.to
    c.in_ok-size.ensures.ok w.1 all)
    c.records_end.ensures.within c.records_end.ensures.ok

pub message_end-returns-clause-fault : goal.message_end-returns-clause-fault
message_end-returns-clause-fault t c =
    err_map c.records_end.result _ _
    (λ e. refuses_map e c.records_end.new.steps.items _ _
    (λ f bad. MessageFault.inside c.in_ok-size.ensures.ok
    (subst (λ (p : Place). Bad (schema_of c.args.self.now.pool.now) (records (context_view c.args.self.now.context)) c.args.self.now.levels p f) (sym (payload_here c.args.bytes.now c.in_ok-size.start c.in_ok-size.size c.args.self.now.to)) bad)))
    c.records_end.ensures.fault

pub record_end-returns-in_err-number_end-clause-fault : goal.record_end-returns-in_err-number_end-clause-fault
record_end-returns-in_err-number_end-clause-fault t c =
    let p = err_from_is_err_and c.from_residual.result c.from_residual.ensures.1 in
    rw (p.1, p.2, c.requires.can.no_steps)
    (λ before. number_bad c.args.self.now.pool.now (open_view c.args.self.now) c.args.self.now.levels c.args.tag.number c.args.tag.wire_type (here c.args.bytes.now c.args.tag.at c.args.self.now.to) (here c.args.bytes.now c.args.tag.end c.args.self.now.to) c.requires.is_tag before _ c.in_err-number_end.ensures.fault)

pub record_end-returns-in_ok-number_end-clause-ok : goal.record_end-returns-in_ok-number_end-clause-ok
record_end-returns-in_ok-number_end-clause-ok t c =
    number_value (schema_of c.args.self.now.pool.now) (context_view c.args.self.now.context) c.args.self.now.levels c.args.tag.number c.args.tag.wire_type (here c.args.bytes.now c.args.tag.end c.args.self.now.to) (here c.args.bytes.now c.in_ok-number_end.field-0 c.args.self.now.to) c.in_ok-number_end.ensures.ok

pub records_end-records-init : goal.records_end-records-init
records_end-records-init t c =
    (omega arith, c.requires.at_in_bounds, c.requires.no_steps, [], front_none (schema_of c.args.self.now.pool.now) (context_view c.args.self.now.context) c.args.self.now.levels (here c.args.bytes.now c.args.at c.args.self.now.to))

pub records_end-returns-in_err-tag-clause-fault : goal.records_end-returns-in_err-tag-clause-fault
records_end-returns-in_err-tag-clause-fault t c =
    let p = err_from_is_err_and c.from_residual.result c.from_residual.ensures.1 in
    rw (p.1, p.2, c.records.invariant.2)
    (tag_refused c.args.self.now.pool.now c.args.self.now.group (context_view c.args.self.now.context) c.args.self.now.levels (here c.args.bytes.now c.args.at c.args.self.now.to) (here c.args.bytes.now c.records.here c.args.self.now.to) c.records.invariant.3 _ c.records.invariant.4
    (c.is_at_end.ensures.goes_on c.records-test.true) c.in_err-tag.ensures.fault)

pub records_end-records-preserved : goal.records_end-records-preserved
records_end-records-preserved t c =
    let moved = c.in_ok-tag.ensures.within in
    let ended = c.in-Ok.ensures.within in
    let value = c.in-Ok.ensures.ok in (
      let h = c.records.invariant.0 in omega (arith, h, moved, ended),
      ended.1,
      c.in-Ok.ensures.steps,
      _,
      front_push c.records.invariant.3 value.0 c.records.invariant.4 c.in_ok-tag.ensures.ok value.1,
    )

pub records_end-returns-in_err-push-in-Err-clause-fault : goal.records_end-returns-in_err-push-in-Err-clause-fault
records_end-returns-in_err-push-in-Err-clause-fault t c =
    let p = err_from_is_err_and c.from_residual-in_err-push-in-Err.result c.from_residual-in_err-push-in-Err.ensures.1 in
    rw (p.1, p.2)
    (some_fault c.args.self.now.pool.now c.args.self.now.group (context_view c.args.self.now.context) c.args.self.now.levels c.in_ok-tag.tag.number c.in_ok-tag.tag.wire_type (here c.args.bytes.now c.args.at c.args.self.now.to) (here c.args.bytes.now c.records.here c.args.self.now.to) (here c.args.bytes.now c.in_ok-tag.tag.end c.args.self.now.to)
    c.records.invariant.3 c.record_end.new.steps.items c.in-Err.error c.records.invariant.4 c.in_ok-tag.ensures.ok
    (rw c.in_ok-tag.ensures.within.2 at c.in-Err.ensures.fault))

pub records_end-returns-in-Err-clause-fault : goal.records_end-returns-in-Err-clause-fault
records_end-returns-in-Err-clause-fault t c =
    let rs : List Record = c.records.invariant.3 in
    let front = c.records.invariant.4 in
    let reported : c.step_after.result ≡ step c.in_ok-tag.tag.number rs =
    c.step_after.ensures rs (records_between c.args.self.now.levels c.args.bytes.now c.args.at c.records.here c.args.self.now.to rs front) (sound_higher 100 c.requires.levels (blank_sound front.sound)) in
    record_refused c.args.self.now.pool.now c.args.self.now.group (context_view c.args.self.now.context) c.args.self.now.levels c.in_ok-tag.tag.number c.in_ok-tag.tag.wire_type (here c.args.bytes.now c.args.at c.args.self.now.to) (here c.args.bytes.now c.records.here c.args.self.now.to) (here c.args.bytes.now c.in_ok-tag.tag.end c.args.self.now.to)
    rs c.record_end.new.steps.items c.push.new.self.items c.in-Err.error front c.in_ok-tag.ensures.ok
    (c.in_ok-push-in-Err.ensures.items ∙ ap (λ (s : PathStep). c.record_end.new.steps.items ++ s ∷ []) reported)
    (rw c.in_ok-tag.ensures.within.2 at c.in-Err.ensures.fault)
