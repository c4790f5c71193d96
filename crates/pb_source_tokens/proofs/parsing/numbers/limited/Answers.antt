use Rattle.std.proofs.Common.{arith, refl, sym, ◌∙◌}
use Rattle.pb_source_tokens.specs.Readers.Phrases.{limited_reader}
use Rattle.pb_source_tokens.proofs.NumberSteps.{limited_above, limited_read}
use Rattle.pb_source_tokens.proofs.parsing.numbers.limited.Goals as goal

pub returns-in_default-clause-read : goal.returns-in_default-clause-read
unfolding limited_reader
returns-in_default-clause-read c = rw c.in_default.ensures.none refl

pub returns-then-number-from-clause-read : goal.returns-then-number-from-clause-read
returns-then-number-from-clause-read c =
    let l = c.if-number-from.true in let e = c.from.ensures in
    rw c.in-Some.ensures.found.1 (limited_above c.args.limit c.in-Some-integer_in.number _ _ (sym c.integer_in.ensures ∙ c.in-Some-integer_in.is) (omega arith))

pub returns-clause-read : goal.returns-clause-read
returns-clause-read c =
    let l = c.if-number-from.false in let e = c.from.ensures in let f = c.ranges.limit in
    rw c.in-Some.ensures.found.1 (limited_read c.args.limit c.in-Some-integer_in.number _ _ (sym c.integer_in.ensures ∙ c.in-Some-integer_in.is) (omega arith) f.fits)
