use Rattle.std.proofs.Common.{rules}
use Rattle.pb_link.proofs.DeclaredLemmas.{index_pushed}
use Rattle.pb_link.proofs.declaring.indexes.Goals as goal

pub loop-index-preserved : goal.loop-index-preserved
loop-index-preserved c = index_pushed c.args.imports.now c.loop-index.index _ c.loop-index.indexes.items c.push.new.self.items c.loop-index-test.true (search rules) c.loop-index.invariant c.in_ok-push.ensures.items
