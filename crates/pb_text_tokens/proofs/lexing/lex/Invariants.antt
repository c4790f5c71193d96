use Rattle.std.proofs.Common.{◌≤◌, ◌-◌, length}
use Rattle.pb_text_tokens.specs.TokenView.{tokens_of}
use Rattle.pb_text_tokens.proofs.LexLemmas.{ReachesToken}
use Rattle.pb_text_tokens.proofs.lexing.lex.Given as goal

abbrev pub invariant-loop-at : goal.invariant-loop-at
invariant-loop-at l = record {
  within : l.at ≤ length l.bytes;
  read : ReachesToken l.bytes l.at (tokens_of l.tokens.items);
}

abbrev pub decreases-loop-at : goal.decreases-loop-at
decreases-loop-at l = length l.bytes - l.at
