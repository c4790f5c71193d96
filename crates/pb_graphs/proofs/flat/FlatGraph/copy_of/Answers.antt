-- Where the next index leads is the next list.
use Rattle.std.proofs.Common.{◌<◌, ◌++◌, [], ◌∷◌, ℕ, List, length, refl, ap, ◌∙◌, arith}
use Rattle.pb_graphs.specs.declared.flat.FlatGraph.{FlatGraph}
use Rattle.pb_graphs.specs.Reach.{next_of}
use Rattle.pb_graphs.specs.Flat.{lists_of}
use Rattle.pb_graphs.proofs.FlatLemmas.{grows, lists_next}
use Rattle.pb_graphs.proofs.flat.FlatGraph.copy_of.Goals as goal

pub loop-index-preserved : goal.loop-index-preserved
loop-index-preserved g c =
    let lists = g.G.Graph.lists c.args.graph.now in
    let i = c.loop-index.index in
    let next = c.next.result.now in
    let longer : FlatGraph = record { ends = c.loop-index.flat.ends; targets = c.extend_from_slice.new.self } in
    let less : i < length lists = omega (arith, c.loop-index-test.true, c.len-index-end.ensures) in
    let more = grows c.loop-index.flat longer next c.loop-index.invariant.2 c.in_ok-extend_from_slice.ensures.items refl in
    let list = more.grown ∙ ap (λ l. l ++ next) c.loop-index.invariant.1 ∙ c.next.ensures in (
      c.in_ok-end_list.ensures.lists
          ∙ ap (λ (l : List ℕ). lists_of longer ++ l ∷ []) list
          ∙ ap (λ (ls : List (List ℕ)). ls ++ next_of lists i ∷ []) (more.lists ∙ c.loop-index.invariant.0)
          ∙ lists_next lists i less,
      c.in_ok-end_list.ensures.empty,
      c.in_ok-end_list.ensures.laid,
    )
