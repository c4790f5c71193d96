use Rattle.std.proofs.Common.{◌<◌, length, slice_set, arith, sym, ap, ◌∙◌, add-one}
use Rattle.std.proofs.lemmas.Grind.{common_steps}
use Rattle.pb_value.specs.View.{fields_view}
use Rattle.pb_place.specs.Ask.{numbers_of}
use Rattle.pb_place.proofs.Counts.{numbers_count, laid_from, laid_from-nothing, laid_from-full, laid_from-write}
use Rattle.pb_place.proofs.asking.write_numbers.Goals.{in-None, in-Some+then-count-buffer}
use Rattle.pb_place.proofs.asking.write_numbers.Goals as goal

pub loop-number-preserved : goal.loop-number-preserved
loop-number-preserved c =
    let i = c.loop-number.count in
    let n = c.in-Some.number.now in
    let buffer = c.loop-number.buffer in
    let lt : i < length buffer = omega (arith, c.loop-number.invariant.within, c.if-count-buffer.false) in
    record {
      within = grind (arith, common_steps, lt);
      laid = c.loop-number.invariant.laid ∙ ap (λ fs. laid_from i (numbers_of (fields_view fs)) buffer) c.in-Some.ensures.steps
          ∙ laid_from-write i n (numbers_of (fields_view c.next.new.self)) buffer lt
          ∙ ap (λ k. laid_from k (numbers_of (fields_view c.next.new.self)) (slice_set buffer i n)) (sym (add-one i));
    }

pub returns-clause-counted : goal.returns-clause-counted
returns-clause-counted c = c.len.ensures.len ∙ sym (numbers_count c.args.fields.now.entries)

pub returns-clause-written : goal.returns-clause-written
returns-clause-written c =
    let i = c.loop-number.count in
    let buffer = c.loop-number.buffer in
    elim c.match-next.branch [
      | in-None w ↦ sym (c.loop-number.invariant.laid ∙ ap (λ fs. laid_from i (numbers_of (fields_view fs)) buffer) w.in-None.ensures.steps.0 ∙ laid_from-nothing i buffer)
      | in-Some+then-count-buffer w ↦ sym (c.loop-number.invariant.laid ∙ laid_from-full i (numbers_of (fields_view c.loop-number.number-iterator)) buffer (omega (arith, w.if-count-buffer.true)))
    ]
