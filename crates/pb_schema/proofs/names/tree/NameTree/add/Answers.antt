use Rattle.std.proofs.Common.{position, sym, ◌∙◌, ap}
use Rattle.std.specs.Str.{bytes_eq}
use Rattle.pb_names.specs.NameSets.{with_name}
use Rattle.pb_schema.proofs.NameTreeLemmas.{tree_added}
use Rattle.pb_schema.proofs.names.tree.NameTree.add.Goals as goal

pub returns : goal.returns
returns c tree scope word =
    let n = c.in_ok-insert_full.ensures.stored in
    let text = c.in_ok-to_vec.ensures.items_if_clones_equal (λ x y e. e) in
    let words = c.in_ok-word.ensures.names ∙ ap (λ x. with_name x c.args.self.now.words) text in
    let at = ap (λ x. position (bytes_eq x) c.add_full.new.self) (sym text) ∙ c.in_ok-word.ensures.index in
    tree_added c.args.self.now _ c.args.scope c.args.word.now c.in_ok-word.word c.in_ok-insert_full.field-0.0 c.in_ok-insert_full.field-0.1 tree scope word words at c.in_ok-insert_full.ensures.keys n.0 n.1 n.2 c.in_ok-insert_full.ensures.added
