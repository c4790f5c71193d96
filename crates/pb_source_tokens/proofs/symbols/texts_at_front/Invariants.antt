use Rattle.std.proofs.Common.{◌≤◌, ◌-◌, take, length}
use Rattle.pb_source_tokens.specs.TokenView.{tokens_of}
use Rattle.pb_source_tokens.specs.Symbols.{Joined}
use Rattle.pb_source_tokens.proofs.symbols.texts_at_front.Given as goal

abbrev pub invariant-loop-count : goal.invariant-loop-count
invariant-loop-count l = record {
  within : l.count ≤ length l.tokens;
  joined : Joined (take l.count (tokens_of l.tokens)) l.bytes.items;
}

abbrev pub decreases-loop-count : goal.decreases-loop-count
decreases-loop-count l = length l.tokens - l.count
