use Rattle.std.proofs.Common.{◌+◌, ◌++◌, ◌∷◌, [], ℕ, List, arith, ap, sym, ◌∙◌}
use Rattle.pb_wire.specs.Limits.{full}
use Rattle.pb_wire.specs.RecordIter.{Gives, all_ok}
use Rattle.pb_wire.specs.declared.iter.Payload.{Payload}
use Rattle.pb_wire.specs.declared.fault.PathStep.{PathStep}
use Rattle.pb_wire.proofs.RecordIterRuns.{Given, given_ok, given_ok-push, shown_numbers, all_numbers, no_fault, fault_after, records_alone}
use Rattle.pb_wire.proofs.JudgingLemmas.{count_one_more, count_as_before, same_count_of, items_bound}
use Rattle.pb_validate.proofs.refusal.step_after.Goals as goal

pub overflow_add-occurrence : goal.overflow_add-occurrence
overflow_add-occurrence c =
    let less = (c.in-Some.ensures.goes.on tt).2 in
    let most = items_bound full c.args.bytes.now c.into_iter-item-iterator.result (c.into_iter-item-iterator.ensures.into_iter_gives ∙ c.new-item-items.ensures.begins) in
    let before = c.loop-item.invariant.2 in
    omega arith

pub loop-item-preserved-then-other-number : goal.loop-item-preserved-then-other-number
loop-item-preserved-then-other-number c =
    let less = (c.in-Some.ensures.goes.on tt).2 in
    let before = c.loop-item.invariant.2 in
    let ys : List (ℕ × Payload) = c.loop-item.invariant.3 in
    let y : ℕ × Payload = (c.in-Ok.other, c.in-Ok.field-0-1) in (
      tt,
      tt,
      omega arith,
      ys ++ y ∷ [],
      ap (λ (z : List Given). z ++ c.in-Some.item ∷ []) c.loop-item.invariant.4
          ∙ ap (λ (z : Given). given_ok ys ++ z ∷ []) c.in-Ok.is ∙ sym (given_ok-push ys y),
      ap (λ (n : ℕ). n + 1) c.loop-item.invariant.5 ∙ sym (count_one_more (λ (z : ℕ × Payload). z.0) c.args.number ys y c.if-other-number.true),
    )

pub loop-item-preserved : goal.loop-item-preserved
loop-item-preserved c =
    let less = (c.in-Some.ensures.goes.on tt).2 in
    let before = c.loop-item.invariant.2 in
    let ys : List (ℕ × Payload) = c.loop-item.invariant.3 in
    let y : ℕ × Payload = (c.in-Ok.other, c.in-Ok.field-0-1) in (
      tt,
      tt,
      omega arith,
      ys ++ y ∷ [],
      ap (λ (z : List Given). z ++ c.in-Some.item ∷ []) c.loop-item.invariant.4
          ∙ ap (λ (z : Given). given_ok ys ++ z ∷ []) c.in-Ok.is ∙ sym (given_ok-push ys y),
      c.loop-item.invariant.5 ∙ sym (count_as_before (λ (z : ℕ × Payload). z.0) c.args.number ys y c.if-other-number.false),
    )

pub returns-in-None : goal.returns-in-None
returns-in-None c = λ rs spelled sound.
    let ys : List (ℕ × Payload) = c.loop-item.invariant.3 in
    let given = c.new-item-items.ensures.text rs (record { size = omega arith; spelled = spelled; sound = sound }) in
    let started : Gives c.into_iter-item-iterator.result (all_ok given.0) = rw c.into_iter-item-iterator.ensures.into_iter_gives given.2 in
    let run = records_alone _ _ _ _ ys _ (all_ok given.0) c.loop-item.yielded_by c.loop-item.invariant.4 c.in-None.is c.next.ensures.steps started in
    ap (λ (n : ℕ). let s : PathStep = record { number = c.args.number; occurrence = n } in s)
    (c.loop-item.invariant.5 ∙ same_count_of (λ y. y.0) (λ r. r.number) c.args.number ys rs (all_numbers given.0 ys run ∙ shown_numbers rs given.0 c.args.bytes.now given.1))

pub returns-in_default : goal.returns-in_default
returns-in_default c = λ rs spelled sound.
    let ys : List (ℕ × Payload) = c.loop-item.invariant.3 in
    let given = c.new-item-items.ensures.text rs (record { size = omega arith; spelled = spelled; sound = sound }) in
    let started : Gives c.into_iter-item-iterator.result (all_ok given.0) = rw c.into_iter-item-iterator.ensures.into_iter_gives given.2 in
    let run = fault_after _ _ _ _ ys _ _ c.in_default.field-0 (all_ok given.0) c.loop-item.yielded_by c.loop-item.invariant.4 c.in-Some.is c.in_default.is c.next.ensures.steps started in
    absurd (no_fault given.0 ys c.in_default.field-0 run.0 run.1)
