use Rattle.std.proofs.Common.{arith}
use Rattle.pb_canonical.proofs.SplitLemmas.{eight_split, eight_short}
use Rattle.pb_canonical.proofs.SameLemmas.{eight_same, eight_long}
use Rattle.pb_canonical.proofs.first.eight_first.Goals as goal

pub slice_bounds-result-count : goal.slice_bounds-result-count
slice_bounds-result-count c = (c.in-Whole.ensures 0).0

pub slice_bounds-result-start : goal.slice_bounds-result-start
slice_bounds-result-start c = (c.in-Whole.ensures 0).0

pub returns-in-Whole-clause-split : goal.returns-in-Whole-clause-split
returns-in-Whole-clause-split c = eight_split c.args.bytes.now _ _ (c.in-Whole.ensures 0)

pub returns-in-Whole-clause-complete : goal.returns-in-Whole-clause-complete
returns-in-Whole-clause-complete c = λ n s r e.
    eight_same c.in-Whole.number n c.args.bytes.now _ s (omega arith) r (eight_split c.args.bytes.now _ _ (c.in-Whole.ensures 0)) e

pub returns-in-Short-clause-complete : goal.returns-in-Short-clause-complete
returns-in-Short-clause-complete c = λ n s r e.
    let short = eight_short c.args.bytes.now _ (c.in-Short.ensures 0) in let long = eight_long n c.args.bytes.now s e in absurd (omega (arith, short, long))

pub returns-in-Fault-clause-complete : goal.returns-in-Fault-clause-complete
returns-in-Fault-clause-complete c = λ n s r e.
    let short = eight_short c.args.bytes.now _ (c.in-Fault.ensures 0).1 in let long = eight_long n c.args.bytes.now s e in absurd (omega (arith, short, long))
