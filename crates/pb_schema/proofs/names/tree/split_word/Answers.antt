use Rattle.pb_schema.proofs.PackageLemmas.{cut_at}
use Rattle.pb_schema.proofs.names.tree.split_word.Goals as goal

pub returns-then-name-index-eq46 : goal.returns-then-name-index-eq46
returns-then-name-index-eq46 c =
    (cut_at c.args.name.now c.loop-index.index c.loop-index-test.true c.if-name-index-eq46.true, c.loop-index.invariant)
