use Rattle.std.proofs.Common.{◌≤◌, ◌-◌, length}
use Rattle.pb_text_tree.specs.Grammar.{AnotherWord, no_point}
use Rattle.pb_text_tree.specs.Seen.{text_of}
use Rattle.pb_text_tree.proofs.StepLemmas.{Reaches}
use Rattle.pb_text_tree.proofs.source.Source.more_words.Given as goal

abbrev pub invariant-words : goal.invariant-words
invariant-words l = record {
  passed : l.from ≤ l.at;
  within : l.at ≤ length l.self.tokens.now;
  read : Reaches (no_point (text_of l.self)) (AnotherWord (text_of l.self)) l.fn.name.items l.from l.name.items l.at;
}

abbrev pub decreases-words : goal.decreases-words
decreases-words l = length l.self.tokens.now - l.at
