use Rattle.std.proofs.Common.{List, ℕ, Option, None, option_map, Bor, sym, ◌∙◌, subst}
use Rattle.pb_schema.proofs.PackageLemmas.{PackageSoFar, package-empty, package-start, package-step, package-end, package_word, none_of_length, some_of_length}
use Rattle.pb_schema.proofs.names.tree.NameTree.add_package.Goals as goal
use Rattle.pb_schema.proofs.names.tree.NameTree.add_package.Goals.{then-is_empty, else-is_empty}

pub loop-rest-init : goal.loop-rest-init
loop-rest-init c tree words =
    let t = c.args.self.now in
    let name = c.args.name.now in
    elim c.if-is_empty.branch [
      | then-is_empty w ↦ rw w.rest-is (subst (λ n. PackageSoFar t t n None None) (sym (none_of_length name (sym c.is_empty.ensures ∙ w.if-is_empty.true))) (package-empty t tree))
      | else-is_empty w ↦ rw w.rest-is (package-start t name tree words (some_of_length name (sym c.is_empty.ensures ∙ w.if-is_empty.false)))
    ]

pub loop-rest-preserved : goal.loop-rest-preserved
loop-rest-preserved c tree words =
    let so = subst (λ (o : Option (Bor (List ℕ))). PackageSoFar c.args.self.now c.loop-rest.self c.args.name.now c.loop-rest.scope (option_map (λ r. r.now) o)) c.in-Some.is (c.loop-rest.invariant tree words) in
    let word_ok = package_word c.args.self.now c.loop-rest.self c.args.name.now c.in-Some.words.now c.split_word.result.0.now c.loop-rest.scope _ so c.split_word.ensures in
    package-step c.args.self.now c.loop-rest.self c.add.new.self c.args.name.now c.in-Some.words.now c.split_word.result.0.now c.loop-rest.scope _ c.in_ok-index.index c.in_ok-index.field-0-1 so c.split_word.ensures (c.in_ok-index.ensures so.tree so.in_tree word_ok)

pub returns : goal.returns
returns c tree words =
    package-end c.args.self.now c.loop-rest.self c.args.name.now c.loop-rest.scope (subst (λ (o : Option (Bor (List ℕ))). PackageSoFar c.args.self.now c.loop-rest.self c.args.name.now c.loop-rest.scope (option_map (λ r. r.now) o)) c.in_default.is (c.loop-rest.invariant tree words))
