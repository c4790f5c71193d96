use Rattle.std.proofs.Common.{◌≡◌, [], ◌∷◌, ◌++◌, true, ◌||◌, refl, ap, ◌∙◌}
use Rattle.std.specs.Prelude.{if◌then◌else◌}
use Rattle.std.proofs.lemmas.Result.{err_from_is_err_and}
use Rattle.pb_source.specs.StatementView.{file_statement_view}
use Rattle.pb_source.specs.Readers.Lines.{is_package, file_statement_reader}
use Rattle.pb_source.proofs.EndSteps.{starts_on, goes_on_to_end, refuses_on, ends_on}
use Rattle.pb_source.proofs.FileSteps.{or_if, read_once, packaged_on, one_package}
use Rattle.pb_source.proofs.parsing.files.file_body.Goals as goal

pub loop-here-init : goal.loop-here-init
loop-here-init c = ([], c.new-parts.ensures, refl, starts_on is_package (file_statement_reader c.args.grammar) c.args.symbols.now c.args.at c.requires)

pub loop-here-preserved : goal.loop-here-preserved
loop-here-preserved c =
    let i = c.loop-here.invariant in
    let packaged = c.loop-here.packaged in
    let said = file_statement_view c.in_ok-statement.statement in
    let next : (packaged || c.is_package-packaged.result) ≡ (if packaged then true else is_package said) = or_if packaged c.is_package-packaged.result ∙ ap (λ b. if packaged then true else b) c.is_package-packaged.ensures in
    let once = read_once c.args.grammar c.args.symbols.now c.loop-here.here c.in_ok-statement.after packaged said c.in_ok-statement.ensures.read in
    let on = packaged_on packaged i.0 said i.2 once in (
      i.0 ++ said ∷ [],
      c.in_ok-add_file_statement.ensures i.0 i.1 (one_package (if packaged then true else is_package said) (i.0 ++ said ∷ []) on),
      rw next on,
      rw next (goes_on_to_end is_package (file_statement_reader c.args.grammar) c.args.symbols.now c.args.at packaged i.0 c.loop-here.here c.in_ok-statement.after said i.3 c.in_ok-statement.ensures.within.0
          c.in_ok-statement.ensures.within.1 c.in_ok-statement.ensures.read),
    )

pub returns-in_err-statement-clause-refused : goal.returns-in_err-statement-clause-refused
returns-in_err-statement-clause-refused c =
    let p = err_from_is_err_and c.from_residual.result c.from_residual.ensures.1 in
    let i = c.loop-here.invariant in
    rw (p.1, p.2) (refuses_on is_package (file_statement_reader c.args.grammar) c.args.symbols.now c.args.at c.loop-here.packaged i.0 c.loop-here.here _ i.3 c.loop-here-test.true c.in_err-statement.ensures.read)

pub returns-clause-read : goal.returns-clause-read
returns-clause-read c =
    let i = c.loop-here.invariant in
    (i.0, c.in_ok-decl.ensures i.0 i.1, ends_on is_package (file_statement_reader c.args.grammar) c.args.symbols.now c.args.at c.loop-here.packaged i.0 c.loop-here.here i.3 c.loop-here-test.false)
