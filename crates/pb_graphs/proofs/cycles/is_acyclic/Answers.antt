use Rattle.std.proofs.Common.{arith, refl}
use Rattle.pb_graphs.specs.Flat.{lists_of}
use Rattle.pb_graphs.proofs.CycleLemmas.{no_cycle}
use Rattle.pb_graphs.proofs.cycles.is_acyclic.Goals as goal

pub returns : goal.returns
returns c = (
  λ _. no_cycle (lists_of c.args.graph.now) c.loop-index.progress.items c.loop-index.invariant.0
      (λ k h. c.loop-index.invariant.1 k (omega (arith, h, c.loop-index-test.false))),
  λ _. refl,
)
