use Rattle.std.proofs.Common.{[], arith}
use Rattle.pb_source_tokens.specs.declared.token.Token.{Token}
use Rattle.pb_source_tokens.specs.declared.token.TokenKind.TheVariants.{Word}
use Rattle.pb_source_tokens.proofs.SymbolLemmas.{stops_there, texts_on, text_kind}
use Rattle.pb_source_tokens.proofs.symbols.texts_at_front.Goals as goal

none : Token
none = record { kind = Word; at = 0; text = record { ref_ptr = (0, 0); now = [] } }

pub returns-then-ne-clause-stops : goal.returns-then-ne-clause-stops
unfolding none
returns-then-ne-clause-stops c = stops_there c.args.tokens.now c.loop-count.count none c.loop-count-test.true (λ e. cc (rw e at c.if-ne.ensures))

pub loop-count-preserved : goal.loop-count-preserved
unfolding none
loop-count-preserved c = record {
  within = (let l = c.loop-count-test.true in omega arith);
  joined = texts_on c.args.tokens.now c.loop-count.count none c.loop-count.bytes.items _ c.loop-count-test.true c.requires
      (text_kind _ (λ e. cc (rw e at c.if-ne.ensures)) (λ e. cc (rw e at c.if-ne.ensures)) (λ e. cc (rw e at c.if-ne.ensures))) c.loop-count.invariant.joined c.in_ok-push_text.ensures;
}
