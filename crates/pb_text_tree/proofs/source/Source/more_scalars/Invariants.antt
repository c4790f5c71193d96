use Rattle.std.proofs.Common.{◌≤◌, ◌-◌, length, map}
use Rattle.pb_text_tree.specs.Grammar.{AnotherScalar, ends_list}
use Rattle.pb_text_tree.specs.Seen.{text_of}
use Rattle.pb_text_tree.specs.View.{placed_view}
use Rattle.pb_text_tree.proofs.StepLemmas.{Reaches}
use Rattle.pb_text_tree.proofs.source.Source.more_scalars.Given as goal

abbrev pub invariant-items : goal.invariant-items
invariant-items l = record {
  passed : l.from ≤ l.at;
  read : Reaches (ends_list (text_of l.self)) (AnotherScalar (text_of l.self)) (map placed_view l.fn.items.items) l.from (map placed_view l.items.items) l.at;
}

abbrev pub decreases-items : goal.decreases-items
decreases-items l = length l.self.tokens.now - l.at
