use Rattle.std.proofs.Common.{[], ◌∷◌, ◌++◌, codes, sym, ◌∙◌, arith}
use Rattle.std.proofs.lemmas.Result.{err_from_is_err_and}
use Rattle.pb_source_tokens.specs.Readers.Forms.{mark_reader}
use Rattle.pb_source_tokens.proofs.UntilSteps.{starts, goes_on, refuses, ends}
use Rattle.pb_source.specs.Meaning.{enum_of}
use Rattle.pb_source.specs.StatementView.{enum_statement_view}
use Rattle.pb_source.specs.Readers.Lines.{is_closing, enum_statement_reader}
use Rattle.pb_source.proofs.NoStatement.{no_enum_statement}
use Rattle.pb_source.proofs.parsing.enums.enum_body.Goals as goal

pub loop-alloc-init : goal.loop-alloc-init
loop-alloc-init c = ([], c.in_ok-decl.ensures, starts is_closing (enum_statement_reader c.args.grammar) (mark_reader (codes "}")) c.args.symbols.now c.args.at c.requires)

pub loop-alloc-preserved : goal.loop-alloc-preserved
loop-alloc-preserved c =
    let i = c.loop-alloc.invariant in (
      i.0 ++ (enum_statement_view c.in_ok-statement.statement) ∷ [],
      c.in_ok-add_enum_statement.ensures c.args.name.now i.0 i.1,
      goes_on is_closing (enum_statement_reader c.args.grammar) (mark_reader (codes "}")) c.args.symbols.now c.args.at i.0 c.loop-alloc.here c.in_ok-statement.after (enum_statement_view c.in_ok-statement.statement) i.2 c.in_ok-statement.ensures.within.0 c.in_ok-statement.ensures.within.1
          (sym c.loop-alloc-test.true ∙ c.begins_with_mark.ensures) c.in_ok-statement.ensures.read,
    )

pub returns-in_err-statement-clause-read : goal.returns-in_err-statement-clause-read
returns-in_err-statement-clause-read c =
    let p = err_from_is_err_and c.from_residual-in_err-statement.result c.from_residual-in_err-statement.ensures.1 in
    let i = c.loop-alloc.invariant in
    rw (p.1, p.2) (refuses is_closing (enum_statement_reader c.args.grammar) (mark_reader (codes "}")) c.args.symbols.now (enum_of c.args.name.now) c.args.at i.0 c.loop-alloc.here _ i.2 (sym c.loop-alloc-test.true ∙ c.begins_with_mark.ensures) (no_enum_statement c.args.grammar) c.in_err-statement.ensures.read)

pub returns : goal.returns
returns c =
    let i = c.loop-alloc.invariant in
    record {
      within = (let a = i.2.passed in let b = c.in_ok-after.ensures.within.0 in omega arith, c.in_ok-after.ensures.within.1);
      read = rw i.1 (ends is_closing (enum_statement_reader c.args.grammar) (mark_reader (codes "}")) c.args.symbols.now (enum_of c.args.name.now) c.args.at i.0 c.loop-alloc.here c.in_ok-after.after i.2 (sym c.loop-alloc-test.false ∙ c.begins_with_mark.ensures) c.in_ok-after.ensures.read);
    }
