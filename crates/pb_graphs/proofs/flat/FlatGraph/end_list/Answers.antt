use Rattle.std.proofs.Common.{◌≡◌, [], ◌∷◌, ◌++◌, length, ap, ◌∙◌, arith}
use Rattle.pb_graphs.specs.Flat.{parts_of, behind_parts}
use Rattle.pb_graphs.proofs.FlatLemmas.{parts_end, none_behind}
use Rattle.pb_graphs.proofs.flat.FlatGraph.end_list.Goals as goal

pub returns-clause-lists : goal.returns-clause-lists
returns-clause-lists c =
    let f = c.args.self.now in
    let end : c.len.result ≡ length f.targets.items = omega (arith, c.len.ensures, f.targets.ok.0) in
    ap (parts_of f.targets.items 0) (c.in_ok-push.ensures.items ∙ ap (λ n. f.ends.items ++ n ∷ []) end) ∙ parts_end f.targets.items 0 f.ends.items

pub returns-clause-empty : goal.returns-clause-empty
returns-clause-empty c =
    let f = c.args.self.now in
    let end : c.len.result ≡ length f.targets.items = omega (arith, c.len.ensures, f.targets.ok.0) in
    ap (behind_parts f.targets.items 0) (c.in_ok-push.ensures.items ∙ ap (λ n. f.ends.items ++ n ∷ []) end) ∙ none_behind f.targets.items 0 f.ends.items
