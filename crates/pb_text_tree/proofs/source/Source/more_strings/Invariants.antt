use Rattle.std.proofs.Common.{◌≤◌, ◌-◌, length}
use Rattle.pb_text_tree.specs.Grammar.{AnotherString, no_string}
use Rattle.pb_text_tree.specs.Seen.{text_of}
use Rattle.pb_text_tree.proofs.StepLemmas.{Reaches}
use Rattle.pb_text_tree.proofs.source.Source.more_strings.Given as goal

abbrev pub invariant-strings : goal.invariant-strings
invariant-strings l = record {
  passed : l.from ≤ l.at;
  within : l.at ≤ length l.self.tokens.now;
  read : Reaches (no_string (text_of l.self)) (AnotherString (text_of l.self)) l.fn.bytes.items l.from l.bytes.items l.at;
}

abbrev pub decreases-strings : goal.decreases-strings
decreases-strings l = length l.self.tokens.now - l.at
