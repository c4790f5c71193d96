use Rattle.std.proofs.Common.{take, arith}
use Rattle.std.proofs.lemmas.List.{take_more, take_all}
use Rattle.pb_graphs.proofs.ReachLemmas.{marks_nil, marks_append}
use Rattle.pb_graphs.proofs.reach.Reach.mark_all.Goals as goal

pub loop-index-init : goal.loop-index-init
loop-index-init c = marks_nil c.args.self.now

pub loop-index-preserved : goal.loop-index-preserved
loop-index-preserved c =
    rw (take_more c.args.indexes.now c.loop-index.index-index 0 (omega arith)) (marks_append (take c.loop-index.index-index c.args.indexes.now) _ c.args.self.now c.loop-index.self c.mark.new.self c.loop-index.invariant c.in_ok-mark.ensures)

pub returns : goal.returns
returns c = rw (take_all c.loop-index.index-index c.args.indexes.now (omega arith)) at c.loop-index.invariant
