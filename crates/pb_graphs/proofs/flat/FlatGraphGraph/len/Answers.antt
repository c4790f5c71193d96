use Rattle.std.proofs.Common.{arith}
use Rattle.pb_graphs.proofs.FlatLemmas.{as_many}
use Rattle.pb_graphs.proofs.flat.FlatGraphGraph.len.Goals as goal

pub returns : goal.returns
returns c =
    let f = c.args.self.now in
    omega (arith, c.len.ensures, f.ends.ok.0, as_many f.targets.items 0 f.ends.items)
