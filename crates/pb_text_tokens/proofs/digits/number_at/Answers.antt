use Rattle.std.proofs.Common.{◌≡◌, ◌-◌, arith, sym, ◌∙◌, get_or, Some}
use Rattle.pb_text_tokens.specs.Digits.{digit_of}
use Rattle.pb_text_tokens.proofs.DigitLemmas.{product_fits, sum_fits, next_power, number_next, number_ends, number_at_end, joins, joins_end}
use Rattle.pb_text_tokens.proofs.DigitLemmas.{digit_below}
use Rattle.pb_text_tokens.proofs.digits.number_at.Goals as goal

pub returns-then-i-bytes-clause-is : goal.returns-then-i-bytes-clause-is
returns-then-i-bytes-clause-is c =
    joins_end c.loop-i.i c.loop-i.value _ _ c.loop-i.invariant.read (number_at_end c.args.base c.loop-i.value (c.args.limit - c.loop-i.i) c.loop-i.i c.args.bytes.now c.if-i-bytes.true)

pub overflow_mul-value : goal.overflow_mul-value
overflow_mul-value c = let m = product_fits c.args.base c.args.limit c.loop-i.i c.loop-i.value c.requires.base c.requires.limit c.loop-i-test.true c.loop-i.invariant.small in omega arith

pub overflow_add-value : goal.overflow_add-value
overflow_add-value c =
    let m = sum_fits c.args.base c.args.limit c.loop-i.i c.loop-i.value c.in-Some.digit c.requires.base c.requires.limit c.loop-i-test.true c.loop-i.invariant.small
    (digit_below c.args.base (get_or c.args.bytes.now c.loop-i.i 0) c.in-Some.digit (sym c.digit_of.ensures ∙ c.in-Some.is)) in
    omega arith

pub returns-in-None-clause-is : goal.returns-in-None-clause-is
returns-in-None-clause-is c =
    joins_end c.loop-i.i c.loop-i.value _ _ c.loop-i.invariant.read (number_ends c.args.base c.loop-i.value c.args.limit c.loop-i.i c.args.bytes.now (omega (arith, c.if-i-bytes.false)) (sym c.digit_of.ensures ∙ c.in-None.is))

pub loop-i-preserved : goal.loop-i-preserved
loop-i-preserved c =
    let h : digit_of c.args.base (get_or c.args.bytes.now c.loop-i.i 0) ≡ Some c.in-Some.digit = sym c.digit_of.ensures ∙ c.in-Some.is in
    record {
      within = omega (arith, c.if-i-bytes.false);
      small = next_power c.args.base c.loop-i.i c.loop-i.value c.in-Some.digit c.requires.base c.loop-i.invariant.small (digit_below c.args.base (get_or c.args.bytes.now c.loop-i.i 0) c.in-Some.digit h);
      read = joins c.loop-i.i 0 _ _ _ c.loop-i.invariant.read (number_next c.args.base c.loop-i.value c.args.limit c.loop-i.i c.in-Some.digit c.args.bytes.now c.loop-i-test.true (omega (arith, c.if-i-bytes.false)) h);
    }
