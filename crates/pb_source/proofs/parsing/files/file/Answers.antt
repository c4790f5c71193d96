use Rattle.std.proofs.Common.{refl}
use Rattle.std.proofs.lemmas.Result.{err_from_is_err_and}
use Rattle.pb_source_tokens.proofs.UntilSteps.{fails_on, mapped_fails, mapped_reads}
use Rattle.pb_source.specs.Readers.Lines.{file_reader}
use Rattle.pb_source.proofs.parsing.files.file.Goals as goal

pub returns-in_err-grammar-clause-refused : goal.returns-in_err-grammar-clause-refused
unfolding file_reader
returns-in_err-grammar-clause-refused c =
    let p = err_from_is_err_and c.from_residual.result c.from_residual.ensures.1 in
    rw (p.1, p.2) (λ n l. fails_on c.args.symbols.now _ _ _ (λ x k. rw k refl) c.in_err-grammar.ensures.read)

pub returns-in_err-decl-clause-refused : goal.returns-in_err-decl-clause-refused
unfolding file_reader
returns-in_err-decl-clause-refused c =
    let p = err_from_is_err_and c.from_residual-in_err-decl.result c.from_residual-in_err-decl.ensures.1 in
    rw (p.1, p.2) (λ n l. rw c.in_ok-grammar.ensures.read (mapped_fails (λ ss. (c.in_ok-grammar.grammar, ss)) c.args.symbols.now _ _ (c.in_err-decl.ensures.refused n l)))

pub returns-clause-read : goal.returns-clause-read
unfolding file_reader
returns-clause-read c =
    let r = c.in_ok-decl.ensures.read in
    ((c.in_ok-grammar.grammar, r.0), r.1, λ n l. rw c.in_ok-grammar.ensures.read (mapped_reads (λ ss. (c.in_ok-grammar.grammar, ss)) _ _ _ (r.2 n l)))
