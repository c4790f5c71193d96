use Rattle.std.proofs.Common.{◌<◌, ◌+◌, length, drop, get_or, slice_set, arith, sym, ap, ◌∙◌, add-one}
use Rattle.std.proofs.lemmas.List.{drop_all, drop_more}
use Rattle.pb_c_message.specs.Keys.{laid_from}
use Rattle.pb_c_message.proofs.KeyLists.{laid_from-nothing, laid_from-full, laid_from-write}
use Rattle.pb_c_message.proofs.keys.lay_from.Goals as goal

pub loop-byte-preserved : goal.loop-byte-preserved
loop-byte-preserved c =
    let bs = c.args.bytes.now in let k = c.loop-byte.byte-index in let i = c.loop-byte.index in let out = c.loop-byte.out in
    let b = get_or bs k 0 in
    let lt : i < length out = omega (arith, c.if-index-out.false) in
    c.loop-byte.invariant ∙ ap (λ l. laid_from i l out) (drop_more bs k 0 c.loop-byte-test.true) ∙ laid_from-write i b (drop (k + 1) bs) out lt
    ∙ ap (λ n. laid_from n (drop (k + 1) bs) (slice_set out i b)) (sym (add-one i))

pub returns-after-loop-byte : goal.returns-after-loop-byte
returns-after-loop-byte c =
    let bs = c.args.bytes.now in let k = c.loop-byte.byte-index in let i = c.loop-byte.index in let out = c.loop-byte.out in
    sym (c.loop-byte.invariant ∙ ap (λ l. laid_from i l out) (drop_all k bs (omega (arith, c.loop-byte-test.false, c.loop-byte.auto.byte-index-end))) ∙ laid_from-nothing i out)

pub returns-then-index-out : goal.returns-then-index-out
returns-then-index-out c =
    let i = c.loop-byte.index in let out = c.loop-byte.out in
    sym (c.loop-byte.invariant ∙ laid_from-full i (drop c.loop-byte.byte-index c.args.bytes.now) out (omega (arith, c.if-index-out.true)))
