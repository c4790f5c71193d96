use Rattle.std.proofs.Common.{◌≡◌, [], ◌∷◌, ◌++◌, ◌∙◌, List, ℕ, map, take, length, subst, sym, ap, arith}
use Rattle.std.proofs.lemmas.List.{take_all}
use Rattle.pb_link_names.specs.Declarations.{Declaration}
use Rattle.pb_link_names.specs.View.{declaration_view}
use Rattle.pb_link_names.specs.Words.{AddsName}
use Rattle.pb_link_names.proofs.GraphLemmas.{map_more}
use Rattle.pb_link_names.proofs.WordLemmas.{AreThere, words_are, root_tree, none_there, there_more}
use Rattle.pb_link_names.proofs.words.words_of.Goals as goal

pub loop-declaration-init : goal.loop-declaration-init
loop-declaration-init c =
    let items : c.push.new.self.items ≡ c.new-2.result ∷ [] = c.in_ok-push.ensures.items ∙ ap (λ l. l ++ c.new-2.result ∷ []) c.new.ensures.items in (
      root_tree (record { inside = c.push.new.self }) c.new-2.result c.new-2.ensures items,
      omega (arith, ap length items),
      none_there (record { inside = c.push.new.self }),
    )

pub loop-declaration-preserved : goal.loop-declaration-preserved
loop-declaration-preserved c = (
  c.in_ok-add.ensures.tree,
  omega (arith, c.loop-declaration.invariant.1, c.in_ok-add.ensures.kept.more),
  subst (λ (ds : List Declaration). AreThere ds c.add.new.self) (sym (map_more declaration_view c.args.row.now c.loop-declaration.declaration-index c.declaration-item.result c.loop-declaration-test.true c.declaration-item.is))
      (there_more (map declaration_view (take c.loop-declaration.declaration-index c.args.row.now)) (declaration_view c.declaration-item.result) c.loop-declaration.words c.add.new.self c.loop-declaration.invariant.2
      (subst (λ (l : List ℕ). AddsName l c.loop-declaration.words c.add.new.self) c.written_name.ensures c.in_ok-add.ensures)),
)

pub returns : goal.returns
returns c =
    words_are (map declaration_view c.args.row.now) c.loop-declaration.words
    (subst (λ l. AreThere (map declaration_view l) c.loop-declaration.words) (take_all c.loop-declaration.declaration-index c.args.row.now c.loop-declaration-test.false) c.loop-declaration.invariant.2)
