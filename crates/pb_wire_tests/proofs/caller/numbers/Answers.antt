use Rattle.std.proofs.Common.{◌++◌, ◌∷◌, [], List, ℕ, sym, ap, ◌∙◌, inr, Err}
use Rattle.std.proofs.lemmas.List.{map-append}
use Rattle.std.proofs.lemmas.Result.{err_from_is_err_and}
use Rattle.pb_wire.specs.RecordIter.{Gives, all_ok, without_path}
use Rattle.pb_wire.specs.declared.iter.Payload.{Payload}
use Rattle.pb_wire_tests.specs.declared.caller.NumbersError.TheVariants.{Fault}
use Rattle.pb_wire.proofs.RecordIterRuns.{Given, given_ok, fault_after, records_alone, given_ok-push, shown_numbers, all_numbers, no_fault, fault_follows, one_follows}
use Rattle.pb_wire_tests.proofs.caller.numbers.Goals as goal

pub loop-item-preserved : goal.loop-item-preserved
loop-item-preserved c =
    let ys : List (ℕ × Payload) = c.loop-item.invariant.2 in
    let y : ℕ × Payload = (c.in_ok-number.number, c.in_ok-number.field-0-1) in (
      tt,
      tt,
      ys ++ y ∷ [],
      ap (λ (z : List Given). z ++ c.in-Some.item ∷ []) c.loop-item.invariant.3
          ∙ ap (λ (z : Given). given_ok ys ++ z ∷ []) c.in_ok-number.was ∙ sym (given_ok-push ys y),
      c.in_ok-push.ensures.items ∙ ap (λ (z : List ℕ). z ++ c.in_ok-number.number ∷ []) c.loop-item.invariant.4
          ∙ sym (map-append (λ (z : ℕ × Payload). z.0) ys (y ∷ [])),
    )

pub returns-in_err-number-clause-text : goal.returns-in_err-number-clause-text
returns-in_err-number-clause-text c = λ rs t.
    let given = c.new-item-items.ensures.text rs t in
    let started : Gives c.into_iter-item-iterator.result (all_ok given.0) = rw c.into_iter-item-iterator.ensures.into_iter_gives given.2 in
    let run = fault_after _ _ _ _ c.loop-item.invariant.2 _ _ c.in_err-number.field-0.0 (all_ok given.0) c.loop-item.yielded_by c.loop-item.invariant.3 c.in-Some.is c.in_err-number.was c.next.ensures.steps started in
    absurd (no_fault given.0 c.loop-item.invariant.2 c.in_err-number.field-0.0 run.0 run.1)

pub returns-in_err-number-clause-fault : goal.returns-in_err-number-clause-fault
returns-in_err-number-clause-fault c = λ f h.
    let given = c.new-item-items.ensures.fault f h in
    let started : Gives c.into_iter-item-iterator.result (all_ok given.0 ++ Err (without_path f) ∷ []) = rw c.into_iter-item-iterator.ensures.into_iter_gives given.2 in
    let run = fault_after _ _ _ _ c.loop-item.invariant.2 _ _ c.in_err-number.field-0.0 (all_ok given.0 ++ Err (without_path f) ∷ []) c.loop-item.yielded_by c.loop-item.invariant.3 c.in-Some.is c.in_err-number.was c.next.ensures.steps started in
    let same = one_follows given.0 c.loop-item.invariant.2 (without_path f) c.in_err-number.field-0.0 run.0 run.1 in
    let p = err_from_is_err_and c.from_residual.result c.from_residual.ensures.1 in
    rw p.1 (inr (p.2 ∙ ap Fault same))

pub returns-clause-text : goal.returns-clause-text
returns-clause-text c = λ rs t.
    let given = c.new-item-items.ensures.text rs t in
    let started : Gives c.into_iter-item-iterator.result (all_ok given.0) = rw c.into_iter-item-iterator.ensures.into_iter_gives given.2 in
    let run = records_alone _ _ _ _ c.loop-item.invariant.2 _ (all_ok given.0) c.loop-item.yielded_by c.loop-item.invariant.3 c.in-None.is c.next.ensures.steps started in
    c.loop-item.invariant.4 ∙ all_numbers given.0 c.loop-item.invariant.2 run ∙ shown_numbers rs given.0 c.args.bytes.now given.1

pub returns-clause-fault : goal.returns-clause-fault
returns-clause-fault c = λ f h.
    let given = c.new-item-items.ensures.fault f h in
    let started : Gives c.into_iter-item-iterator.result (all_ok given.0 ++ Err (without_path f) ∷ []) = rw c.into_iter-item-iterator.ensures.into_iter_gives given.2 in
    let run = records_alone _ _ _ _ c.loop-item.invariant.2 _ (all_ok given.0 ++ Err (without_path f) ∷ []) c.loop-item.yielded_by c.loop-item.invariant.3 c.in-None.is c.next.ensures.steps started in
    fault_follows given.0 c.loop-item.invariant.2 (without_path f) run
