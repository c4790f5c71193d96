use Rattle.pb_graphs.proofs.ReachLemmas.{reached_from_starts}
use Rattle.pb_graphs.proofs.reach.Reach.reach.Goals as goal

pub returns-clause-exact : goal.returns-clause-exact
returns-clause-exact g c =
    reached_from_starts (g.G.Graph.lists c.args.graph.now) c.args.starts.now c.start.new.self c.follow.new.self c.in_ok-start.ensures.listed c.in_ok-start.ensures.exact c.in_ok-follow.ensures.exact
