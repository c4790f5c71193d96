use Rattle.std.proofs.Common.{◌<◌, length, ◌∙◌, arith, inr}
use Rattle.pb_json_text.specs.declared.fault.JsonCause.TheVariants as cause
use Rattle.pb_json_text.proofs.Steps.{letter_at, letter_end, letter_not, stop_is}
use Rattle.pb_json_text.proofs.bytes.word_end.Goals as goal

pub returns-then-at-bytes-clause-fault : goal.returns-then-at-bytes-clause-fault
returns-then-at-bytes-clause-fault c at j l k =
    inr (stop_is c.end.result c.loop-letter.at cause.UnexpectedEnd _ c.end.ensures.byte c.end.ensures.cause
    (c.loop-letter.invariant.runs at j l k
    ∙ letter_end c.args.bytes.now c.args.word.now c.loop-letter.at c.loop-letter.letter-index at j l k c.loop-letter-test.true (let e = c.if-at-bytes.true in omega arith)))

pub returns-then-bytes-at-clause-fault : goal.returns-then-bytes-at-clause-fault
returns-then-bytes-at-clause-fault c at j l k =
    inr (stop_is c.unexpected.result c.loop-letter.at cause.UnexpectedByte _ c.unexpected.ensures.byte c.unexpected.ensures.cause
    (c.loop-letter.invariant.runs at j l k
    ∙ letter_not c.args.bytes.now c.args.word.now c.loop-letter.at c.loop-letter.letter-index at j l k c.loop-letter-test.true
    (let w = c.loop-letter.invariant.within in let n = c.if-at-bytes.false in omega arith) c.if-bytes-at.true))

pub loop-letter-preserved : goal.loop-letter-preserved
loop-letter-preserved c =
    let lt : c.loop-letter.at < length c.args.bytes.now = (let w = c.loop-letter.invariant.within in let n = c.if-at-bytes.false in omega arith) in
    record {
      within = omega arith;
      passed = omega arith;
      runs = λ at j v k. letter_at c.args.bytes.now c.args.word.now c.args.from c.loop-letter.at c.loop-letter.letter-index at j v k _ c.loop-letter-test.true lt c.if-bytes-at.false (c.loop-letter.invariant.runs at j v k);
    }
