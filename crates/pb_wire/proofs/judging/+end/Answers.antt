use Rattle.std.proofs.Common.{◌≡◌, ◌++◌, ◌∷◌, [], List, arith, ap, ◌∙◌}
use Rattle.std.proofs.lemmas.Result.{err_from_is_err_and}
use Rattle.pb_wire.specs.Fault.{place, step}
use Rattle.pb_wire.specs.Record.{Record}
use Rattle.pb_wire.specs.declared.fault.PathStep.{PathStep}
use Rattle.pb_wire.proofs.DepthLemmas.{sound_higher}
use Rattle.pb_wire.proofs.ReadingLemmas.{front_none, front_push, bad_from, bad_tag}
use Rattle.pb_wire.proofs.JudgingLemmas.{records_between, too_deep_record, group_record, group_read, bad_behind}
use Rattle.pb_wire.proofs.judging.+end.Goals as goal

pub record_end-returns-then-depth_left-eq0-clause-fault : goal.record_end-returns-then-depth_left-eq0-clause-fault
record_end-returns-then-depth_left-eq0-clause-fault t c =
    too_deep_record c.args.depth_left c.args.number (place c.args.bytes.now c.args.tag) (place c.args.bytes.now c.args.start) c.refused.result c.args.steps.now.items
    (rw c.in-StartGroup.is at c.requires.is_tag) c.if-depth_left-eq0.true c.requires.no_steps c.refused.ensures

pub record_end-returns-clause-ok : goal.record_end-returns-clause-ok
record_end-returns-clause-ok t c =
    rw c.in-StartGroup.is
    (group_read c.args.depth_left c.args.number (place c.args.bytes.now c.args.start) (place c.args.bytes.now c.in_ok-end.end) (omega arith) c.in_ok-end.ensures.ok)

pub record_end-returns-in_err-end-clause-fault : goal.record_end-returns-in_err-end-clause-fault
record_end-returns-in_err-end-clause-fault t c =
    let p = err_from_is_err_and c.from_residual-in_err-end.result c.from_residual-in_err-end.ensures.1 in
    rw (p.1, p.2)
    (group_record c.args.depth_left c.args.number (place c.args.bytes.now c.args.tag) (place c.args.bytes.now c.args.start) c.records_end.new.steps.items _
    (omega arith) (rw c.in-StartGroup.is at c.requires.is_tag) c.in_err-end.ensures.fault)

pub records_end-records-init : goal.records_end-records-init
records_end-records-init t c =
    (omega arith, c.requires.at_in_bounds, c.requires.no_steps, [], front_none c.args.depth_left c.args.bytes.now c.args.at)

pub records_end-returns-in_err-number-clause-fault : goal.records_end-returns-in_err-number-clause-fault
records_end-returns-in_err-number-clause-fault t c =
    let p = err_from_is_err_and c.from_residual.result c.from_residual.ensures.1 in
    rw (p.1, p.2, c.records.invariant.2)
    (bad_from c.args.innermost c.args.bytes.now c.args.at c.records.here c.args.depth_left c.records.invariant.3 _ (c.is_at_end.ensures.goes_on c.records-test.true) c.records.invariant.4
    (bad_tag c.args.innermost _ _ c.args.depth_left _ c.in_err-number.ensures.fault))

pub records_end-records-preserved : goal.records_end-records-preserved
records_end-records-preserved t c =
    let moved = c.in_ok-number.ensures.within in
    let ended = c.in-Ok.ensures.within in
    let value = c.in-Ok.ensures.ok in (
      let h = c.records.invariant.0 in omega arith,
      ended.1,
      c.in-Ok.ensures.steps,
      _,
      front_push c.records.invariant.3 value.0 c.records.invariant.4 c.in_ok-number.ensures.ok value.1,
    )

pub records_end-returns-in-Err : goal.records_end-returns-in-Err
records_end-returns-in-Err t c =
    let rs : List Record = c.records.invariant.3 in
    let front = c.records.invariant.4 in
    let told : c.step_behind.result ≡ step c.in_ok-number.number rs =
    c.step_behind.ensures rs (records_between c.args.depth_left c.args.bytes.now c.args.at c.records.here rs front) (sound_higher 100 c.requires.depth front.sound) in
    record {
      within = tt;
      whole = λ _. tt;
      ok = tt;
      steps = tt;
      fault =
          bad_behind c.args.innermost c.args.bytes.now c.args.at c.records.here c.args.depth_left c.in_ok-number.number rs
          c.record_end.new.steps.items c.push.new.self.items c.in-Err.error (c.is_at_end.ensures.goes_on c.records-test.true) front
          (c.in_ok-push-in-Err.ensures.items ∙ ap (λ (s : PathStep). c.record_end.new.steps.items ++ s ∷ []) told) c.in-Err.ensures.fault;
    }
