use Rattle.std.proofs.Common.{◌<◌, ◌∙◌, length, sym, ap, subst, arith, All, vec_len}
use Rattle.std.proofs.lemmas.List.{get_or_read}
use Rattle.pb_graphs.specs.Reach.{next_of, Marks}
use Rattle.pb_graphs.proofs.ReachLemmas.{walk_first, walk_more, walk_exact, next_within}
use Rattle.pb_graphs.proofs.reach.Reach.follow.Goals as goal

pub loop-at-init : goal.loop-at-init
loop-at-init g c =
    walk_first (g.G.Graph.lists c.args.graph.now) c.args.self.now (omega (arith, c.args.self.now.bits.ok.0, c.requires.size)) c.requires.listed

pub mark_all-requires : goal.mark_all-requires
mark_all-requires g c =
    subst (All (λ j. j < vec_len c.loop-at.self.bits)) (sym c.next.ensures) (next_within (g.G.Graph.lists c.args.graph.now) c.index-index.result.now (vec_len c.loop-at.self.bits) c.requires.graph (omega (arith, c.loop-at.self.bits.ok.0, c.loop-at.invariant.size)))

pub loop-at-preserved : goal.loop-at-preserved
loop-at-preserved g c =
    let graph = g.G.Graph.lists c.args.graph.now in
    let within : c.loop-at.at < length c.loop-at.self.reached.items = omega (arith, c.loop-at-test.true, c.len.ensures, c.loop-at.self.reached.ok.0) in
    let same = c.next.ensures ∙ ap (next_of graph) (get_or_read c.loop-at.self.reached.items c.loop-at.at c.index-index.result.now within c.index-index.ensures 0) in
    walk_more graph c.args.self.now.reached.items c.loop-at.self c.mark_all.new.self c.loop-at.at within c.loop-at.invariant (subst (λ xs. Marks xs c.loop-at.self c.mark_all.new.self) same c.in_ok-mark_all.ensures)

pub returns-clause-exact : goal.returns-clause-exact
returns-clause-exact g c =
    walk_exact (g.G.Graph.lists c.args.graph.now) c.args.self.now.reached.items c.loop-at.self c.loop-at.at (omega (arith, c.loop-at-test.false, c.len.ensures, c.loop-at.self.reached.ok.0)) c.loop-at.invariant
