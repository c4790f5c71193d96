use Rattle.std.proofs.Common.{arith}
use Rattle.pb_canonical.proofs.OneofLemmas.{below_marked, above_marked, is_marked, is_taken}
use Rattle.pb_canonical.proofs.oneofs.with_oneof.Goals as goal

pub returns-then-oneof-first-clause-marked : goal.returns-then-oneof-first-clause-marked
returns-then-oneof-first-clause-marked c = below_marked c.args.oneof c.args.first c.args.marks (omega arith)

pub returns-then-index-ge-MARKED-clause-marked : goal.returns-then-index-ge-MARKED-clause-marked
returns-then-index-ge-MARKED-clause-marked c = above_marked c.args.oneof c.args.first c.args.marks (omega arith) (omega arith)

pub returns-in_err-new-clause-refused : goal.returns-in_err-new-clause-refused
returns-in_err-new-clause-refused c = rw c.from_residual.ensures (is_taken c.args.oneof c.args.first c.args.marks _ (omega arith) (omega arith) (omega arith) c.in_err-new.ensures.refused)

pub returns-clause-marked : goal.returns-clause-marked
returns-clause-marked c = is_marked c.args.oneof c.args.first c.args.marks _ c.in_ok-new.new (omega arith) (omega arith) c.in_ok-new.ensures.more
