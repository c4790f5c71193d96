use Rattle.std.specs.Prelude.{true, false}
use Rattle.pb_compat.proofs.FewLemmas.{found_where_near}
use Rattle.pb_compat.proofs.nested.nested_witness.Goals as goal

pub returns-in-Some-clause-reachable : goal.returns-in-Some-clause-reachable
returns-in-Some-clause-reachable c =
    found_where_near c.args.old.now c.args.new.now c.args.compared.now c.args.index c.args.number true (rw c.in-Some.is at c.in_ok-message_type.ensures.exact)

pub returns-in-None-clause-reachable : goal.returns-in-None-clause-reachable
returns-in-None-clause-reachable c =
    found_where_near c.args.old.now c.args.new.now c.args.compared.now c.args.index c.args.number false (rw c.in-None.is at c.in_ok-message_type.ensures.exact)
