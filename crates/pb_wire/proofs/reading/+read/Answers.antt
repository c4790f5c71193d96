use Rattle.std.proofs.Common.{◌≡◌, ◌+◌, [], length, arith, refl, ◌∙◌, ap, length-append, List, ◌∷◌, ◌++◌}
use Rattle.pb_wire.specs.WireType.{code_of}
use Rattle.std.proofs.lemmas.Result.{err_from_is_err_and}
use Rattle.pb_wire.specs.Fault.{place, step}
use Rattle.pb_wire.specs.declared.fault.PathStep.{PathStep}
use Rattle.pb_wire.specs.Unknown.{records_of}
use Rattle.pb_wire.specs.Sound.{Sound}
use Rattle.pb_wire.specs.Grammar.{RecordFault}
use Rattle.pb_wire.proofs.ReadingLemmas.{bad_varint_value, bad_fixed64_value, bad_fixed32_value, bad_bytes_value, value_from_group, group_value, front_none, front_push, bad_from, bad_tag, bad_after}
use Rattle.pb_wire.proofs.UnknownLemmas.{payload_of-Varint, payload_of-I64, payload_of-I32, payload_of-Len, payload_of-Group, records_of-push}
use Rattle.pb_wire.proofs.reading.+read.Goals as goal

pub value_at-returns-in_err-n-in-Varint-clause-fault : goal.value_at-returns-in_err-n-in-Varint-clause-fault
value_at-returns-in_err-n-in-Varint-clause-fault t c =
    let p = err_from_is_err_and c.from_residual.result c.from_residual.ensures.1 in
    rw (p.1, p.2, c.in-Varint.is, c.requires.no_steps) (bad_varint_value _ _ _ _ c.in_err-n-in-Varint.ensures.fault)

pub value_at-returns-in_err-n-in-I64-clause-fault : goal.value_at-returns-in_err-n-in-I64-clause-fault
value_at-returns-in_err-n-in-I64-clause-fault t c =
    let p = err_from_is_err_and c.from_residual-in_err-n-in-I64.result c.from_residual-in_err-n-in-I64.ensures.1 in
    rw (p.1, p.2, c.in-I64.is, c.requires.no_steps) (bad_fixed64_value _ _ _ _ c.in_err-n-in-I64.ensures.fault)

pub value_at-returns-in_err-n-in-I32-clause-fault : goal.value_at-returns-in_err-n-in-I32-clause-fault
value_at-returns-in_err-n-in-I32-clause-fault t c =
    let p = err_from_is_err_and c.from_residual-in_err-n-in-I32.result c.from_residual-in_err-n-in-I32.ensures.1 in
    rw (p.1, p.2, c.in-I32.is, c.requires.no_steps) (bad_fixed32_value _ _ _ _ c.in_err-n-in-I32.ensures.fault)

pub value_at-returns-in_err-payload-in-Len-clause-fault : goal.value_at-returns-in_err-payload-in-Len-clause-fault
value_at-returns-in_err-payload-in-Len-clause-fault t c =
    let p = err_from_is_err_and c.from_residual-in_err-payload-in-Len.result c.from_residual-in_err-payload-in-Len.ensures.1 in
    rw (p.1, p.2, c.in-Len.is, c.requires.no_steps) (bad_bytes_value _ _ _ _ c.in_err-payload-in-Len.ensures.fault)

pub value_at-returns-in_err-inside-in-StartGroup-clause-fault : goal.value_at-returns-in_err-inside-in-StartGroup-clause-fault
value_at-returns-in_err-inside-in-StartGroup-clause-fault t c =
    let p = err_from_is_err_and c.from_residual-in_err-inside-in-StartGroup.result c.from_residual-in_err-inside-in-StartGroup.ensures.1 in
    rw (p.1, p.2, c.in-StartGroup.is)
    (value_from_group c.args.depth_left c.args.number _ c.records_at.new.steps.items _ (c.requires.level (ap code_of c.in-StartGroup.is)) c.in_err-inside-in-StartGroup.ensures.fault)

pub value_at-returns-in_ok-n-in-Varint-clause-ok : goal.value_at-returns-in_ok-n-in-Varint-clause-ok
value_at-returns-in_ok-n-in-Varint-clause-ok t c = rw (payload_of-Varint, c.in-Varint.is) (record {
  type = refl;
  spelled = (c.in_ok-n-in-Varint.ensures.ok.0, (omega arith, c.in_ok-n-in-Varint.ensures.ok.1), c.in_ok-n-in-Varint.ensures.ok.2);
  sound = Sound.is_varint;
})

pub value_at-returns-in_ok-n-in-I64-clause-ok : goal.value_at-returns-in_ok-n-in-I64-clause-ok
value_at-returns-in_ok-n-in-I64-clause-ok t c = rw (payload_of-I64, c.in-I64.is) (record {
  type = refl;
  spelled = (c.in_ok-n-in-I64.ensures.ok.0, (omega arith, c.in_ok-n-in-I64.ensures.ok.1), c.in_ok-n-in-I64.ensures.ok.2);
  sound = Sound.is_fixed64;
})

pub value_at-returns-in_ok-n-in-I32-clause-ok : goal.value_at-returns-in_ok-n-in-I32-clause-ok
value_at-returns-in_ok-n-in-I32-clause-ok t c = rw (payload_of-I32, c.in-I32.is) (record {
  type = refl;
  spelled = (c.in_ok-n-in-I32.ensures.ok.0, (omega arith, c.in_ok-n-in-I32.ensures.ok.1), c.in_ok-n-in-I32.ensures.ok.2);
  sound = Sound.is_fixed32;
})

pub value_at-returns-in_ok-from_slice-in-Len-clause-ok : goal.value_at-returns-in_ok-from_slice-in-Len-clause-ok
value_at-returns-in_ok-from_slice-in-Len-clause-ok t c = rw (payload_of-Len, c.in-Len.is, c.in_ok-from_slice-in-Len.ensures.items) (record {
  type = refl;
  spelled = c.in_ok-payload-in-Len.ensures.ok c.args.number;
  sound = Sound.some_bytes refl;
})

pub value_at-returns-in_ok-inside-in-StartGroup-clause-ok : goal.value_at-returns-in_ok-inside-in-StartGroup-clause-ok
value_at-returns-in_ok-inside-in-StartGroup-clause-ok t c =
    rw (payload_of-Group, c.in-StartGroup.is)
    (group_value c.args.depth_left c.args.number _ _ _ (c.requires.level (ap code_of c.in-StartGroup.is)) c.in_ok-inside-in-StartGroup.ensures.ok)

pub records_at-records-init : goal.records_at-records-init
records_at-records-init t c =
    (omega arith, c.requires.at_in_bounds, c.requires.no_steps, rw c.new-records.ensures.items (front_none c.args.depth_left c.args.bytes.now c.args.at))

pub records_at-returns-in_err-number-clause-fault : goal.records_at-returns-in_err-number-clause-fault
records_at-returns-in_err-number-clause-fault t c =
    let p = err_from_is_err_and c.from_residual.result c.from_residual.ensures.1 in
    rw (p.1, p.2, c.records.invariant.2)
    (bad_from c.args.innermost c.args.bytes.now c.args.at c.records.here c.args.depth_left _ _ (c.is_at_end.ensures.goes_on c.records-test.true) c.records.invariant.3
    (bad_tag c.args.innermost _ _ c.args.depth_left _ c.in_err-number.ensures.fault))

pub records_at-returns-then-depth_left-eq0 : goal.records_at-returns-then-depth_left-eq0
records_at-returns-then-depth_left-eq0 t c =
    let told : c.push.new.self.items ≡ step c.in_ok-number.number (records_of c.records.records.items) ∷ [] =
    c.in_ok-push.ensures.items ∙ ap (λ (xs : List PathStep). xs ++ c.step_behind.result ∷ []) c.records.invariant.2
    ∙ ap (λ (s : PathStep). s ∷ []) (rw c.deref.ensures.value at c.step_behind.ensures) in
    record {
      within = tt;
      whole = λ _. tt;
      ok = tt;
      steps = tt;
      fault =
          rw told
          (bad_from c.args.innermost c.args.bytes.now c.args.at c.records.here c.args.depth_left _ _ (c.is_at_end.ensures.goes_on c.records-test.true) c.records.invariant.3
          (RecordFault.group_too_deep {k = c.in_ok-number.number} {q = place c.args.bytes.now c.in_ok-number.start} (rw c.in-StartGroup.is at c.in_ok-number.ensures.ok) c.if-depth_left-eq0.true (rw c.refused.ensures refl)));
    }

pub records_at-returns-in-Err : goal.records_at-returns-in-Err
records_at-returns-in-Err t c = record {
  within = tt;
  whole = λ _. tt;
  ok = tt;
  steps = tt;
  fault =
      bad_after c.args.innermost c.args.bytes.now c.args.at c.records.here c.in_ok-number.start c.args.depth_left c.in_ok-number.number _ _
      c.value_at.new.steps.items c.push-in-Err.new.self.items c.in-Err.error (c.is_at_end.ensures.goes_on c.records-test.true) c.records.invariant.3
      c.in_ok-number.ensures.ok
      (c.in_ok-push-in-Err.ensures.items ∙ ap (λ (s : PathStep). c.value_at.new.steps.items ++ s ∷ []) (rw c.deref-in-Err.ensures.value at c.step_behind-in-Err.ensures))
      c.in-Err.ensures.fault;
}

pub records_at-records-preserved : goal.records_at-records-preserved
records_at-records-preserved t c =
    let moved = c.in_ok-number.ensures.within in
    let ended = c.in-Ok.ensures.within in
    let before = c.records.invariant.0 in
    let more : length c.push-in-records.new.self.items ≡ length c.records.records.items + 1 =
    ap length c.in_ok-push-2.ensures.items ∙ length-append c.records.records.items ((c.in_ok-number.number, c.in-Ok.value.0) ∷ []) in (
      omega arith,
      ended.1,
      c.in-Ok.ensures.steps,
      rw (c.in_ok-push-2.ensures.items, records_of-push)
          (front_push _ _ c.records.invariant.3 c.in_ok-number.ensures.ok c.in-Ok.ensures.ok),
    )
