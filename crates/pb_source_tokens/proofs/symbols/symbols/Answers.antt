use Rattle.pb_source_tokens.proofs.SymbolLemmas.{rest_meant, rest_room, symbols_on, symbols_end}
use Rattle.pb_source_tokens.proofs.symbols.symbols.Goals as goal

pub symbol_at_front-requires-clause-meant : goal.symbol_at_front-requires-clause-meant
symbol_at_front-requires-clause-meant c = rest_meant c.args.tokens.now c.loop-at.at c.requires

pub loop-at-preserved : goal.loop-at-preserved
loop-at-preserved c = record {
  within = rest_room c.args.tokens.now c.loop-at.at c.in_ok-symbol.count c.loop-at.invariant.within c.in_ok-symbol.ensures.within.1;
  read = symbols_on c.args.tokens.now c.loop-at.at c.in_ok-symbol.count c.loop-at.symbols.items _ c.in_ok-symbol.symbol c.in_ok-push.ensures.items c.loop-at.invariant.read c.in_ok-symbol.ensures.read;
}

pub returns : goal.returns
returns c = symbols_end c.args.tokens.now c.loop-at.at c.loop-at.symbols.items c.loop-at-test.false c.loop-at.invariant.read
