use Rattle.pb_link_rules.proofs.CycleLemmas.{none_cyclic}
use Rattle.pb_link_rules.proofs.cycles.first_cycle.Goals as goal

pub returns-then-free : goal.returns-then-free
returns-then-free c files w are world is =
    none_cyclic files w c.args.imports.now c.args.row.now are world is (c.in_ok-free.ensures.0 c.if-free.true)
