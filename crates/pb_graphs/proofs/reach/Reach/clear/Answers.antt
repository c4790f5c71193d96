use Rattle.std.proofs.Common.{refl, arith}
use Rattle.pb_graphs.proofs.ReachLemmas.{clears_first, clears_within, clears_more}
use Rattle.pb_graphs.proofs.reach.Reach.clear.Goals as goal

pub loop-index-init : goal.loop-index-init
loop-index-init c = (clears_first c.args.self.now c.requires, refl)

pub index_mut-requires : goal.index_mut-requires
index_mut-requires c =
    omega (arith, c.loop-index.self.bits.ok.0, clears_within c.loop-index.self c.pop.new.self.items c.in-Some.index c.in-Some.ensures.items c.loop-index.invariant.0)

pub loop-index-preserved : goal.loop-index-preserved
loop-index-preserved c =
    (clears_more c.loop-index.self _ c.in-Some.index c.in-Some.ensures.items refl c.loop-index.invariant.0, c.loop-index.invariant.1)
