use Rattle.std.proofs.Common.{arith}
use Rattle.pb_graphs.proofs.FlatLemmas.{grows_none}
use Rattle.pb_link_names.proofs.GraphLemmas.{all_more}
use Rattle.pb_link_names.proofs.imports.push_all.Goals as goal

pub loop-index-preserved : goal.loop-index-preserved
loop-index-preserved c =
    all_more c.args.targets.now c.loop-index.index c.args.graph.now c.loop-index.graph c.push_target.new.graph c.target_of.result (omega arith) c.target_of.ensures c.loop-index.invariant c.in_ok-push_target.ensures

pub loop-index-init : goal.loop-index-init
loop-index-init c = grows_none c.args.graph.now

pub push_target-requires : goal.push_target-requires
push_target-requires c = c.loop-index.invariant.laid c.requires
