use Rattle.std.proofs.Common.{[], ◌∷◌, ◌++◌, codes, sym, ◌∙◌, arith}
use Rattle.std.proofs.lemmas.Result.{err_from_is_err_and}
use Rattle.pb_source_tokens.specs.Readers.Forms.{mark_reader}
use Rattle.pb_source_tokens.proofs.UntilSteps.{starts, goes_on, refuses, ends}
use Rattle.pb_source.specs.Readers.Lines.{is_closing, method_statement_reader}
use Rattle.pb_source.proofs.NoStatement.{no_method_statement}
use Rattle.pb_source.proofs.parsing.services.method_body.Goals as goal

pub loop-alloc-init : goal.loop-alloc-init
loop-alloc-init c = ([], starts is_closing (method_statement_reader c.args.grammar) (mark_reader (codes "}")) c.args.symbols.now c.args.at c.requires)

pub loop-alloc-preserved : goal.loop-alloc-preserved
loop-alloc-preserved c =
    let i = c.loop-alloc.invariant in (
      i.0 ++ tt ∷ [],
      goes_on is_closing (method_statement_reader c.args.grammar) (mark_reader (codes "}")) c.args.symbols.now c.args.at i.0 c.loop-alloc.here c.in_ok-next.next tt i.1 c.in_ok-next.ensures.within.0 c.in_ok-next.ensures.within.1
          (sym c.loop-alloc-test.true ∙ c.begins_with_mark.ensures) c.in_ok-next.ensures.read,
    )

pub returns-in_err-next-clause-read : goal.returns-in_err-next-clause-read
returns-in_err-next-clause-read c =
    let p = err_from_is_err_and c.from_residual.result c.from_residual.ensures.1 in
    let i = c.loop-alloc.invariant in
    rw (p.1, p.2) (refuses is_closing (method_statement_reader c.args.grammar) (mark_reader (codes "}")) c.args.symbols.now (λ _. tt) c.args.at i.0 c.loop-alloc.here _ i.1 (sym c.loop-alloc-test.true ∙ c.begins_with_mark.ensures) (no_method_statement c.args.grammar) c.in_err-next.ensures.read)

pub returns : goal.returns
returns c =
    let i = c.loop-alloc.invariant in
    record {
      within = (let a = i.1.passed in let b = c.in_ok-after.ensures.within.0 in omega arith, c.in_ok-after.ensures.within.1);
      read = (ends is_closing (method_statement_reader c.args.grammar) (mark_reader (codes "}")) c.args.symbols.now (λ _. tt) c.args.at i.0 c.loop-alloc.here c.in_ok-after.after i.1 (sym c.loop-alloc-test.false ∙ c.begins_with_mark.ensures) c.in_ok-after.ensures.read);
    }
