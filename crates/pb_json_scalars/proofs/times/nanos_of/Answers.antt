use Rattle.std.proofs.Common.{length, sym, arith}
use Rattle.pb_json_scalars.proofs.ClockLemmas.{fraction_fits, natural_short}
use Rattle.pb_json_scalars.proofs.times.nanos_of.Goals as goal

pub overflow_cast-result : goal.overflow_cast-result
overflow_cast-result c =
    let few = c.if-digits-gt9.false in
    let below = natural_short 999_999_999 c.args.digits.now c.in_ok-number.number (length c.args.digits.now) (sym c.in_ok-number.ensures.is) (omega arith) in
    let fits = fraction_fits c.in_ok-number.number (length c.args.digits.now) below (omega arith) in
    rw c.pow.ensures (omega (arith, fits))

pub returns-clause-below : goal.returns-clause-below
returns-clause-below c =
    let few = c.if-digits-gt9.false in
    let below = natural_short 999_999_999 c.args.digits.now c.in_ok-number.number (length c.args.digits.now) (sym c.in_ok-number.ensures.is) (omega arith) in
    rw c.pow.ensures (fraction_fits c.in_ok-number.number (length c.args.digits.now) below (omega arith))
