use Rattle.std.proofs.Common.{◌≤◌, ◌-◌, ◌++◌, List, drop, length}
use Rattle.pb_source_tokens.specs.TokenView.{tokens_of}
use Rattle.pb_source_tokens.specs.Symbols.{PlacedSymbol, AreSymbols}
use Rattle.pb_source_tokens.specs.SymbolView.{symbols_of}
use Rattle.pb_source_tokens.proofs.symbols.symbols.Given as goal

abbrev pub invariant-loop-at : goal.invariant-loop-at
invariant-loop-at l = record {
  within : l.at ≤ length l.tokens;
  read : (ss : List PlacedSymbol) → AreSymbols (drop l.at (tokens_of l.tokens)) ss → AreSymbols (tokens_of l.tokens) (symbols_of l.symbols.items ++ ss);
}

abbrev pub decreases-loop-at : goal.decreases-loop-at
decreases-loop-at l = length l.tokens - l.at
