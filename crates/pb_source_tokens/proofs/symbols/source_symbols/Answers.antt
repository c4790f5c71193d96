use Rattle.std.proofs.Common.{All, sym, subst}
use Rattle.std.proofs.lemmas.Result.{err_from_is_err_and}
use Rattle.pb_source_tokens.specs.TokenView.{tokens_of}
use Rattle.pb_source_tokens.specs.Symbols.{IsMeant, AreSymbols}
use Rattle.pb_source_tokens.specs.SymbolView.{symbols_of}
use Rattle.pb_source_tokens.proofs.SymbolLemmas.{tokens_meant}
use Rattle.pb_source_tokens.proofs.OneLexing.{not_both}
use Rattle.pb_source_tokens.proofs.OneReading.{one_source}
use Rattle.pb_source_tokens.proofs.symbols.source_symbols.Goals as goal

pub symbols-requires : goal.symbols-requires
symbols-requires c = subst (λ ts. All IsMeant (tokens_of ts)) (sym c.deref.ensures.value) (tokens_meant c.args.source.now (tokens_of c.in_ok-tokens.tokens.items) c.in_ok-tokens.ensures.tokens)

pub returns-in_err-tokens-clause-accepted : goal.returns-in_err-tokens-clause-accepted
returns-in_err-tokens-clause-accepted c ss h =
    let p = err_from_is_err_and c.from_residual.result c.from_residual.ensures.1 in
    rw (p.1, p.2) (c.in_err-tokens.ensures.accepted h.0 h.1)

pub returns-clause-accepted : goal.returns-clause-accepted
returns-clause-accepted c ss h =
    one_source c.args.source.now (tokens_of c.in_ok-tokens.tokens.items) (symbols_of c.in_ok-symbols.symbols.items) ss c.in_ok-tokens.ensures.tokens
    (subst (λ ts. AreSymbols (tokens_of ts) (symbols_of c.in_ok-symbols.symbols.items)) c.deref.ensures.value c.in_ok-symbols.ensures) h

pub returns-clause-refused : goal.returns-clause-refused
returns-clause-refused c place cause h = absurd (not_both c.args.source.now (tokens_of c.in_ok-tokens.tokens.items) place cause c.in_ok-tokens.ensures.tokens h)
