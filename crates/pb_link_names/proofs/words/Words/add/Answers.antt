use Rattle.std.proofs.Common.{List, ℕ, subst, arith}
use Rattle.pb_link_names.specs.Words.{AddsWord}
use Rattle.pb_link_names.proofs.WordLemmas.{name_added}
use Rattle.pb_link_names.proofs.words.Words.add.Goals as goal

pub returns : goal.returns
returns c =
    name_added c.args.self.now c.loop-index.self c.add_word.new.self c.args.name.now c.loop-index.index c.loop-index.at.0 c.loop-index.at.1 c.in_ok-add_word.field-0 (omega arith) c.loop-index.invariant.0 c.loop-index.invariant.1
    (subst (λ (l : List ℕ). AddsWord c.loop-index.self c.add_word.new.self c.loop-index.at.0 l c.in_ok-add_word.field-0) c.part.ensures c.in_ok-add_word.ensures)
