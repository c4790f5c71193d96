use Rattle.std.proofs.Common.{◌≡◌, List, Ok, Err, subst}
use Rattle.std.specs.Prelude.{◌⊎◌}
use Rattle.std.proofs.lemmas.Result.{err_from_is_err_and}
use Rattle.pb_text_tokens.specs.TokenView.{tokens_of}
use Rattle.pb_text_tokens.specs.declared.token.Token.{Token}
use Rattle.pb_text_tree.specs.Fault.{out_of_memory}
use Rattle.pb_text_tree.specs.Grammar.{Reads}
use Rattle.pb_text_tree.specs.Texts.{text}
use Rattle.pb_text_tree.specs.View.{fields_view}
use Rattle.pb_text_tree.proofs.TextLaws.{token_fault, fields_fault, read_fields}
use Rattle.pb_text_tree.proofs.text.read_within.Goals as goal

pub returns-in_err-tokens-clause-fault : goal.returns-in_err-tokens-clause-fault
returns-in_err-tokens-clause-fault c =
    let p = err_from_is_err_and c.from_residual.result c.from_residual.ensures.1 in
    rw (p.1, p.2) (token_fault c.args.levels c.args.bytes.now _ c.in_err-tokens.ensures.fault)

pub returns-in_err-fields-clause-fault : goal.returns-in_err-fields-clause-fault
returns-in_err-fields-clause-fault c =
    let bs = c.args.bytes.now in
    let e = c.in_err-fields.field-0.0 in
    let p = err_from_is_err_and c.from_residual-in_err-fields.result c.from_residual-in_err-fields.ensures.1 in
    rw (p.1, p.2)
    (fields_fault c.args.levels bs (tokens_of c.in_ok-tokens.tokens.items) e c.in_ok-tokens.ensures.tokens
    (subst (λ (us : List Token). (e ≡ out_of_memory) ⊎ Reads c.args.levels (text (tokens_of us) bs) (Err e)) c.deref.ensures.value c.in_err-fields.ensures.read))

pub returns-clause-fields : goal.returns-clause-fields
returns-clause-fields c =
    let bs = c.args.bytes.now in
    let fs = fields_view c.in_ok-fields.fields.items in
    let n = c.in_ok-fields.field-0-1 in
    read_fields c.args.levels bs (tokens_of c.in_ok-tokens.tokens.items) fs n c.in_ok-tokens.ensures.tokens
    (subst (λ (us : List Token). Reads c.args.levels (text (tokens_of us) bs) (Ok (fs, n))) c.deref.ensures.value c.in_ok-fields.ensures.read)
