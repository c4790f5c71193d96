use Rattle.std.proofs.Common.{◌++◌, ◌∙◌, List, ℕ, sym, ap}
use Rattle.std.proofs.lemmas.List.{append-nil}
use Rattle.pb_compat.proofs.NamesakeLemmas.{pair_of_none}
use Rattle.pb_compat.proofs.namesakes.add_namesake.Goals as goal

pub returns-in-None-clause-added : goal.returns-in-None-clause-added
returns-in-None-clause-added c =
    sym (append-nil c.args.pairs.now.items)
    ∙ ap (λ (l : List (ℕ × ℕ)). c.args.pairs.now.items ++ l) (sym (pair_of_none c.args.old.now c.args.new.now c.args.index (sym c.in-None.ensures.named)))
