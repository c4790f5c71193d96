use Rattle.std.proofs.Common.{arith}
use Rattle.pb_link_names.proofs.ScopeSteps.{first_dot, no_dot}
use Rattle.pb_link_names.proofs.scopes.first_part.Goals as goal

pub returns-then-name-index-eq46 : goal.returns-then-name-index-eq46
returns-then-name-index-eq46 c = first_dot c.args.name.now c.loop-index.index (omega arith) c.loop-index.invariant c.if-name-index-eq46.true

pub returns : goal.returns
returns c = no_dot c.args.name.now c.loop-index.index (omega arith) c.loop-index.invariant
