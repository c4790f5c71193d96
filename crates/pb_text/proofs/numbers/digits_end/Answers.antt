use Rattle.std.proofs.Common.{◌+◌, ℕ, ap, refl}
use Rattle.pb_text.proofs.NumberLemmas.{all_next}
use Rattle.pb_text.proofs.numbers.digits_end.Goals as goal

pub loop-byte-preserved : goal.loop-byte-preserved
loop-byte-preserved c =
    let same = c.loop-byte.invariant.0 in (
      ap (λ (n : ℕ). n + 1) same,
      all_next c.args.bytes.now c.loop-byte.end c.loop-byte.byte-index same c.loop-byte-test.true
          c.loop-byte.invariant.1 (c.if-is_digit.ensures.low refl) (c.if-is_digit.ensures.high refl),
    )
