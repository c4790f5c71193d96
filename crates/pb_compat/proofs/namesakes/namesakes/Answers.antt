use Rattle.std.proofs.Common.{◌++◌, ◌∙◌, List, ℕ, sym, ap}
use Rattle.pb_compat.specs.Namesakes.{namesake_at}
use Rattle.pb_compat.proofs.NamesakeLemmas.{below_more, namesakes_differ}
use Rattle.pb_compat.proofs.namesakes.namesakes.Goals as goal

pub loop-index-preserved : goal.loop-index-preserved
loop-index-preserved c = record {
  pairs =
      c.in_ok-add_namesake.ensures.added
      ∙ ap (λ (l : List (ℕ × ℕ)). l ++ namesake_at c.args.old.now c.args.new.now c.loop-index.index) c.loop-index.invariant.pairs
      ∙ sym (below_more c.args.old.now c.args.new.now c.loop-index.index);
  within = c.in_ok-add_namesake.ensures.within c.loop-index.invariant.within;
}

pub returns-clause-differ : goal.returns-clause-differ
returns-clause-differ c = namesakes_differ c.args.old.now c.args.new.now c.loop-index.index c.loop-index.pairs.items c.loop-index.invariant.pairs
