use Rattle.std.proofs.Common.{◌<◌, suc, length, map, slice_set, arith, sym, ap, ◌∙◌, add-one}
use Rattle.pb_value.specs.View.{key_view}
use Rattle.pb_c_message.specs.Plain.{scalar_plain}
use Rattle.pb_c_message.specs.Keys.{laid_from}
use Rattle.pb_c_message.proofs.KeyLists.{left, left-next, left-none, laid_from-nothing, laid_from-full, laid_from-write}
use Rattle.pb_c_message.proofs.keys.write_keys.Goals as goal

pub loop-key-preserved : goal.loop-key-preserved
loop-key-preserved c =
    let n = c.loop-key.count in let s = c.loop-key.skipped in let buffer = c.loop-key.buffer in let es = c.next.new.self in
    let k = c.in-Some.key.now in let v = c.in-Some.field-0-1.now in
    let lt : n < length buffer = omega (arith, c.if-count-buffer.false) in
    c.loop-key.invariant ∙ ap (λ l. laid_from n (map scalar_plain (left s l)) buffer) c.in-Some.ensures.steps
    ∙ ap (λ l. laid_from n (map scalar_plain l) buffer) (left-next s k v es (omega (arith, c.if-skipped-gt0.false)))
    ∙ laid_from-write n (scalar_plain (key_view k)) (map scalar_plain (left s es)) buffer lt
    ∙ ap (λ x. laid_from (suc n) (map scalar_plain (left s es)) (slice_set buffer n x)) (sym c.key_value.ensures)
    ∙ ap (λ m. laid_from m (map scalar_plain (left s es)) (slice_set buffer n c.key_value.result)) (sym (add-one n))

pub returns-in-None : goal.returns-in-None
returns-in-None c =
    let n = c.loop-key.count in let s = c.loop-key.skipped in let buffer = c.loop-key.buffer in
    sym (c.loop-key.invariant ∙ ap (λ l. laid_from n (map scalar_plain (left s l)) buffer) c.in-None.ensures.steps.0
    ∙ ap (λ l. laid_from n (map scalar_plain l) buffer) (left-none s) ∙ laid_from-nothing n buffer)

pub returns-then-count-buffer : goal.returns-then-count-buffer
returns-then-count-buffer c =
    let n = c.loop-key.count in let buffer = c.loop-key.buffer in
    sym (c.loop-key.invariant ∙ laid_from-full n (map scalar_plain (left c.loop-key.skipped c.loop-key.key-iterator)) buffer (omega (arith, c.if-count-buffer.true)))
