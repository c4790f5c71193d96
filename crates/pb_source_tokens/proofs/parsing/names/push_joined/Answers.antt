use Rattle.std.proofs.Common.{◌++◌, string_bytes, append-nil, ap, sym, ◌∙◌, lit<, arith}
use Rattle.std.proofs.lemmas.List.{at_drop_all}
use Rattle.pb_source_tokens.specs.PhraseView.{words_view}
use Rattle.pb_source_tokens.proofs.NameSteps.{behind_dots, first_pushed, more_pushed}
use Rattle.pb_source_tokens.proofs.parsing.names.push_joined.Goals as goal

pub loop-i-init : goal.loop-i-init
loop-i-init c = first_pushed c.args.words.now _ _ _ (sym c.is_empty.ensures ∙ c.if-is_empty.false) c.in_ok-push_str.ensures.bytes

pub loop-i-preserved : goal.loop-i-preserved
loop-i-preserved c = more_pushed c.args.words.now c.loop-i.i _ (string_bytes c.loop-i.into) _ _ _ c.loop-i-test.true (c.in_ok-push.ensures.bytes ∙ ap (λ x. string_bytes c.loop-i.into ++ x) (c.in_ok-push.ensures.ascii (lit< tt))) c.in_ok-push_str-2.ensures.bytes c.loop-i.invariant

pub returns : goal.returns
returns c =
    let e = at_drop_all (λ ws. behind_dots (words_view ws)) c.args.words.now c.loop-i.i (omega arith) in
    sym (append-nil (string_bytes c.loop-i.into)) ∙ ap (λ x. string_bytes c.loop-i.into ++ x) (sym e) ∙ c.loop-i.invariant
