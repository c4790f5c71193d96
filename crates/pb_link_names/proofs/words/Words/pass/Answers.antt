use Rattle.std.proofs.Common.{◌∙◌, ◌+◌, ℕ, Option, get_or, subst, sym, ap}
use Rattle.pb_link_names.specs.Words.{IsAt, child_if}
use Rattle.pb_link_names.proofs.WordLemmas.{not_dot, at_letter, at_dot}
use Rattle.pb_link_names.proofs.words.Words.pass.Goals as goal

pub returns-then-name-index-ne46-clause-at : goal.returns-then-name-index-ne46-clause-at
returns-then-name-index-ne46-clause-at c at =
    at_letter c.args.self.now c.args.name.now c.args.index c.args.at.0 c.args.at.1 c.requires (not_dot (get_or c.args.name.now c.args.index 0) c.if-name-index-ne46.true) at

pub returns-clause-at : goal.returns-clause-at
returns-clause-at c at =
    subst (λ (o : Option ℕ). IsAt c.args.self.now c.args.name.now (c.args.index + 1) o (c.args.index + 1)) (sym (c.child_if-node.ensures ∙ ap (child_if c.args.self.now c.args.at.0) c.part.ensures))
    (at_dot c.args.self.now c.args.name.now c.args.index c.args.at.0 c.args.at.1 c.requires c.if-name-index-ne46.false at)
