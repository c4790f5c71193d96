use Rattle.pb_validate.proofs.JudgeLemmas.{varint_number}
use Rattle.pb_validate.proofs.whole.whole_number_end.Goals as goal

pub returns-then-wire_type-eq0-clause-ok : goal.returns-then-wire_type-eq0-clause-ok
returns-then-wire_type-eq0-clause-ok c = let h = c.in_ok-end.ensures.ok in rw c.if-wire_type-eq0.true (varint_number h.0 h.1)
