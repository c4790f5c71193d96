use Rattle.std.proofs.Common.{suc, sym, ◌∙◌, arith}
use Rattle.std.proofs.lemmas.Result.{err_from_is_err_and}
use Rattle.pb_source_tokens.specs.Language.{all_rules}
use Rattle.pb_source_tokens.specs.Readers.Given.{symbols_from}
use Rattle.pb_source_tokens.proofs.UntilSteps.{mapped_fails, mapped_reads}
use Rattle.pb_source.specs.Readers.Lines.{a_single}
use Rattle.pb_source.proofs.Bridges.{map_is_field}
use Rattle.pb_source.proofs.parsing.fields.map_or_field.Goals as goal

pub returns-in_err-field-clause-read : goal.returns-in_err-field-clause-read
returns-in_err-field-clause-read c =
    let p = err_from_is_err_and c.from_residual-in_err-field.result c.from_residual-in_err-field.ensures.1 in
    rw (p.1, p.2)
    (λ n l. rw (map_is_field c.args.grammar n all_rules (symbols_from c.args.symbols.now c.args.at) (symbols_from c.args.symbols.now c.in_ok-after.after) (sym c.is_proto2.ensures ∙ c.if-is_proto2.false) c.in_ok-after.ensures.read (sym c.begins_with_mark.ensures ∙ c.if-begins_with_mark.false))
    (mapped_fails a_single c.args.symbols.now _ _ (c.in_err-field.ensures.read (suc n) (omega arith))))

pub returns-clause-read : goal.returns-clause-read
returns-clause-read c = λ n l.
    map_is_field c.args.grammar n all_rules (symbols_from c.args.symbols.now c.args.at) (symbols_from c.args.symbols.now c.in_ok-after.after) (sym c.is_proto2.ensures ∙ c.if-is_proto2.false) c.in_ok-after.ensures.read (sym c.begins_with_mark.ensures ∙ c.if-begins_with_mark.false)
    ∙ mapped_reads a_single _ _ _ (c.in_ok-field.ensures.read (suc n) (omega arith))
