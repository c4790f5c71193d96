use Rattle.std.proofs.Common.{List, ℕ, get_or, subst}
use Rattle.pb_link_names.specs.Words.{AddsWord}
use Rattle.pb_link_names.proofs.WordLemmas.{not_dot, adding_letter, adding_dot}
use Rattle.pb_link_names.proofs.words.Words.add_byte.Goals as goal

pub returns-then-name-index-ne46-clause-adding : goal.returns-then-name-index-ne46-clause-adding
returns-then-name-index-ne46-clause-adding c =
    adding_letter c.args.self.now c.args.name.now c.args.index c.args.at.0 c.args.at.1 c.requires.within (not_dot (get_or c.args.name.now c.args.index 0) c.if-name-index-ne46.true) c.requires.adding

pub returns-clause-adding : goal.returns-clause-adding
returns-clause-adding c =
    adding_dot c.args.self.now c.add_word.new.self c.args.name.now c.args.index c.args.at.0 c.args.at.1 c.in_ok-node.node c.requires.within c.if-name-index-ne46.false c.requires.adding
    (subst (λ (l : List ℕ). AddsWord c.args.self.now c.add_word.new.self c.args.at.0 l c.in_ok-node.node) c.part.ensures c.in_ok-node.ensures)
