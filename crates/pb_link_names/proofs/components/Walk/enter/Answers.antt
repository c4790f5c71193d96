use Rattle.std.proofs.Common.{sym, ◌∙◌, ap, arith, length}
use Rattle.pb_graphs.specs.Flat.{lists_of}
use Rattle.pb_link_names.specs.Components.{unseen_work}
use Rattle.pb_link_names.proofs.ComponentLemmas.{work_opened}
use Rattle.pb_link_names.proofs.components.Walk.enter.Goals as goal

pub returns-clause-work : goal.returns-clause-work
returns-clause-work c =
    let graph = lists_of c.args.graph.now in
    let P = c.args.self.now.progress in
    let less = work_opened graph P.items c.args.index c.len.result (sym c.progress_of.ensures ∙ c.in-Unseen.is) in
    let same = ap (unseen_work graph) c.loop-next.invariant.1 in
    omega (arith, less, same, c.loop-next.invariant.2, c.loop-next-test.false, ap length c.next-next-items.ensures.exact)
