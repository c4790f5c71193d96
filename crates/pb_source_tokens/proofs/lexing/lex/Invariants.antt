use Rattle.std.proofs.Common.{◌≤◌, ◌-◌, All, length, drop}
use Rattle.pb_source_tokens.specs.Tokens.{Lexes, after_mark}
use Rattle.pb_source_tokens.specs.TokenView.{tokens_of, IsSliceOf}
use Rattle.pb_source_tokens.proofs.lexing.lex.Given as goal

abbrev pub invariant-loop-at : goal.invariant-loop-at
invariant-loop-at l = record {
  within : l.at ≤ length l.bytes;
  read : Lexes (after_mark l.bytes).0 (after_mark l.bytes).1 (tokens_of l.tokens.items) l.at (drop l.at l.bytes);
  slices : All (IsSliceOf l.bytes) l.tokens.items;
}

abbrev pub decreases-loop-at : goal.decreases-loop-at
decreases-loop-at l = length l.bytes - l.at
