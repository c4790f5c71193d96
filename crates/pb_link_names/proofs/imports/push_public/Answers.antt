use Rattle.std.proofs.Common.{rules}
use Rattle.pb_graphs.proofs.FlatLemmas.{grows_none}
use Rattle.pb_link_names.proofs.GraphLemmas.{public_more}
use Rattle.pb_link_names.proofs.imports.push_public.Goals as goal

pub loop-at-preserved : goal.loop-at-preserved
loop-at-preserved c =
    public_more c.args.targets.now c.args.public.now c.loop-at.at-index _ c.args.graph.now c.loop-at.graph c.push_target.new.graph c.target_at.result c.loop-at-test.true (search rules) c.target_at.ensures c.loop-at.invariant c.in_ok-push_target.ensures

pub loop-at-init : goal.loop-at-init
loop-at-init c = grows_none c.args.graph.now

pub push_target-requires : goal.push_target-requires
push_target-requires c = c.loop-at.invariant.laid c.requires
