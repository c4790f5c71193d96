use Rattle.std.proofs.Common.{◌<◌, ◌≤◌, List, ℕ, length, get_or, ap, sym, ◌∙◌, arith, ◌∷◌}
use Rattle.pb_graphs.specs.Flat.{part_of}
use Rattle.pb_graphs.proofs.FlatLemmas.{part_at, none_past}
use Rattle.pb_graphs.proofs.flat.FlatGraphGraph.next.Goals as goal

pub returns-in-Some-clause-exact : goal.returns-in-Some-clause-exact
returns-in-Some-clause-exact c =
    let f = c.args.self.now in
    let there = c.in-Some.ensures.lookup.3 in
    let less : c.args.index < length f.ends.items = omega (arith, there.0, ap length c.deref.ensures.value) in
    let end = there.1 0 ∙ ap (λ (l : List ℕ). get_or l c.args.index 0) c.deref.ensures.value in
    c.part.ensures
    ∙ ap (λ (l : List ℕ). part_of l c.start_of.result c.in-Some.end.now) c.deref-in-Some.ensures.value
    ∙ ap (λ start. part_of f.targets.items start c.in-Some.end.now) c.start_of.ensures
    ∙ ap (part_of f.targets.items (get_or (0 ∷ f.ends.items) c.args.index 0)) end
    ∙ sym (part_at f.targets.items 0 f.ends.items c.args.index less)

pub returns-in-None-clause-exact : goal.returns-in-None-clause-exact
returns-in-None-clause-exact c =
    let f = c.args.self.now in
    let past : length f.ends.items ≤ c.args.index = omega (arith, c.in-None.ensures.lookup.3, ap length c.deref.ensures.value) in
    sym (none_past f.targets.items 0 f.ends.items c.args.index past)
