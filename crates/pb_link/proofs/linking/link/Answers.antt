use Rattle.std.proofs.Common.{map}
use Rattle.pb_declarations.specs.View.{file_view}
use Rattle.pb_link.proofs.LinkLemmas.{pool_accepted}
use Rattle.pb_link.proofs.linking.link.Goals as goal

pub returns-in-Ok-clause-accepted : goal.returns-in-Ok-clause-accepted
returns-in-Ok-clause-accepted c = pool_accepted (map file_view c.args.files.now) c.pool_of_judged.result c.pool_of_judged.ensures.made c.pool_of_judged.ensures.memory

pub returns-in-Ok-clause-fault : goal.returns-in-Ok-clause-fault
returns-in-Ok-clause-fault c = λ file name k fault. absurd (c.in-Ok.ensures.fault file name k fault)
