-- Symbols as the code has them.
use Rattle.std.specs.Prelude.{List, map}
use Rattle.pb_source_tokens.specs.Tokens.{AreTokens, PlacedToken}
use Rattle.std.specs.Prelude.{ℕ}
use Rattle.pb_source_tokens.specs.Symbols.{Symbol, word, number, text, sign, PlacedSymbol, AreSymbols}
use Rattle.pb_source_tokens.specs.declared.symbol.Symbol.{Symbol as CodeSymbol}
use Rattle.pb_source_tokens.specs.declared.symbol.Symbol.TheVariants as code
use Rattle.pb_source_tokens.specs.declared.symbol.Placed.{Placed}

abbrev pub symbol_of : CodeSymbol → Symbol
symbol_of (code.Word t) = word t.now
symbol_of (code.Number t) = number t.now
symbol_of (code.Text b) = text b.items
symbol_of (code.Sign t) = sign t.now

abbrev pub placed_of : Placed → PlacedSymbol
placed_of p = record { at = p.at; symbol = symbol_of p.symbol }

abbrev pub symbols_of : List Placed → List PlacedSymbol
symbols_of = map placed_of

-- the source has these symbols
abbrev pub HasSymbols : List ℕ → List PlacedSymbol → Type 0
HasSymbols source ss = (ts : List PlacedToken) × AreTokens source ts × AreSymbols ts ss
