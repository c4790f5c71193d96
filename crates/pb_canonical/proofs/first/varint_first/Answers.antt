use Rattle.std.proofs.Common.{sym, ◌∙◌, arith}
use Rattle.pb_canonical.proofs.SplitLemmas.{nonempty, first_byte}
use Rattle.pb_canonical.proofs.SameLemmas.{varint_given}
use Rattle.pb_canonical.proofs.first.varint_first.Goals as goal

pub returns-then-bytes-lt128-clause-split : goal.returns-then-bytes-lt128-clause-split
returns-then-bytes-lt128-clause-split c = first_byte c.args.bytes.now c.from.result (nonempty c.args.bytes.now (sym c.is_empty.ensures ∙ c.if-not-is_empty.true)) c.from.ensures (omega arith)

pub returns-then-bytes-lt128-clause-complete : goal.returns-then-bytes-lt128-clause-complete
returns-then-bytes-lt128-clause-complete c = λ n s r e.
    varint_given c.from.result n c.args.bytes.now _ s (omega arith) r
    (first_byte c.args.bytes.now c.from.result (nonempty c.args.bytes.now (sym c.is_empty.ensures ∙ c.if-not-is_empty.true)) c.from.ensures (omega arith)) e

pub returns-in-Some-clause-complete : goal.returns-in-Some-clause-complete
returns-in-Some-clause-complete c = λ n s r e. varint_given c.in-Some.number n c.args.bytes.now _ s c.in-Some.ensures.small r c.in-Some.ensures.split e
