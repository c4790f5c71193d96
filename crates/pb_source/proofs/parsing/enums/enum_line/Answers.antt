use Rattle.std.proofs.Common.{refl, ap, Ok}
use Rattle.std.proofs.lemmas.Result.{err_from_is_err_and}
use Rattle.pb_source_tokens.specs.Readers.Given.{symbols_from}
use Rattle.pb_source_tokens.proofs.UntilSteps.{before_map, fails_before}
use Rattle.pb_source.specs.Meaning.{enum_of}
use Rattle.pb_source.specs.Readers.Lines.{enum_reader}
use Rattle.pb_source.proofs.parsing.enums.enum_line.Goals as goal

pub returns-in_err-decl-clause-read : goal.returns-in_err-decl-clause-read
unfolding enum_reader
returns-in_err-decl-clause-read c =
    let p = err_from_is_err_and c.from_residual-in_err-decl.result c.from_residual-in_err-decl.ensures.1 in
    rw (p.1, p.2) (λ n l. fails_before (enum_of c.in_ok-name.name.now) c.args.symbols.now _ _ _
    (λ x k. rw (c.in_ok-after.ensures.read, c.in_ok-name.ensures.read, c.in_ok-after-2.ensures.read, k) refl) (c.in_err-decl.ensures.read n l))

pub returns-clause-read : goal.returns-clause-read
unfolding enum_reader
returns-clause-read c = λ n l.
    let m = before_map (enum_of c.in_ok-name.name.now) _ _ _ (c.in_ok-decl.ensures.read n l) in
    rw (c.in_ok-after.ensures.read, c.in_ok-name.ensures.read, c.in_ok-after-2.ensures.read, m.1) (ap (λ e. Ok (e, symbols_from c.args.symbols.now c.in_ok-decl.after)) m.2)
