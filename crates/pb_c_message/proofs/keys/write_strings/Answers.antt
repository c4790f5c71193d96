use Rattle.std.proofs.Common.{◌+◌, ◌++◌, length, arith, sym, ap, ◌∙◌}
use Rattle.pb_c_message.specs.Keys.{laid_from, strings_of}
use Rattle.pb_c_message.proofs.KeyLists.{left, left-next, left-none, laid_from-nothing, laid_from-full, laid_from-both}
use Rattle.pb_c_message.proofs.keys.write_strings.Goals as goal

pub loop-key-preserved : goal.loop-key-preserved
loop-key-preserved c =
    let n = c.loop-key.at in let s = c.loop-key.skipped in let out = c.loop-key.out in let es = c.next.new.self in
    let k = c.in-Some.key.now in let v = c.in-Some.field-0-1.now in let bs = c.key_bytes-bytes.result.now in
    c.loop-key.invariant ∙ ap (λ l. laid_from n (strings_of (left s l)) out) c.in-Some.ensures.steps
    ∙ ap (λ l. laid_from n (strings_of l) out) (left-next s k v es (omega (arith, c.if-skipped-gt0.false)))
    ∙ ap (λ b. laid_from n (b ++ strings_of (left s es)) out) (sym c.key_bytes-bytes.ensures)
    ∙ laid_from-both n bs (strings_of (left s es)) out
    ∙ ap (laid_from (n + length bs) (strings_of (left s es))) (sym c.lay_from.ensures)

pub returns-in-None : goal.returns-in-None
returns-in-None c =
    let n = c.loop-key.at in let s = c.loop-key.skipped in let out = c.loop-key.out in
    sym (c.loop-key.invariant ∙ ap (λ l. laid_from n (strings_of (left s l)) out) c.in-None.ensures.steps.0
    ∙ ap (λ l. laid_from n (strings_of l) out) (left-none s) ∙ laid_from-nothing n out)

pub returns-then-at-out : goal.returns-then-at-out
returns-then-at-out c =
    let n = c.loop-key.at in let out = c.loop-key.out in
    sym (c.loop-key.invariant ∙ laid_from-full n (strings_of (left c.loop-key.skipped c.loop-key.key-iterator)) out (omega (arith, c.if-at-out.true)))
