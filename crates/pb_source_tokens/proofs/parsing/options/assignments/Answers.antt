use Rattle.std.proofs.Common.{[], ◌∷◌, ◌++◌, codes, sym, ◌∙◌}
use Rattle.std.proofs.lemmas.Result.{err_from_is_err_and}
use Rattle.pb_source_tokens.specs.Readers.Forms.{mark_reader}
use Rattle.pb_source_tokens.specs.Readers.Phrases.{is_comma, assignment_reader}
use Rattle.pb_source_tokens.proofs.UntilSteps.{mapped_fails, mapped_reads}
use Rattle.pb_source_tokens.proofs.SeparatedSteps.{starts, goes_on, refuses_first, refuses, ends}
use Rattle.pb_source_tokens.proofs.NoSymbols.{no_assignment}
use Rattle.pb_source_tokens.proofs.parsing.options.assignments.Goals as goal

pub loop-alloc-init : goal.loop-alloc-init
loop-alloc-init c = (tt ∷ [], starts is_comma (assignment_reader c.args.grammar) (mark_reader (codes ",")) c.args.symbols.now c.args.at c.in_ok-first.first tt c.in_ok-first.ensures.within.0 c.in_ok-first.ensures.within.1 c.in_ok-first.ensures.read)

pub loop-alloc-preserved : goal.loop-alloc-preserved
loop-alloc-preserved c =
    let i = c.loop-alloc.invariant in (
      i.0 ++ tt ∷ [],
      goes_on is_comma (assignment_reader c.args.grammar) (mark_reader (codes ",")) c.args.symbols.now c.args.at i.0 c.loop-alloc.here c.in_ok-after.after tt i.1 c.in_ok-after.ensures.within.0 c.in_ok-after.ensures.within.1
          (sym c.loop-alloc-test.true ∙ c.begins_with_mark.ensures) c.in_ok-after.ensures.read,
    )

pub returns-in_err-first-clause-read : goal.returns-in_err-first-clause-read
returns-in_err-first-clause-read c =
    let p = err_from_is_err_and c.from_residual.result c.from_residual.ensures.1 in
    rw (p.1, p.2) (λ n l. mapped_fails (λ _. tt) c.args.symbols.now _ _ (refuses_first is_comma (assignment_reader c.args.grammar) (mark_reader (codes ",")) c.args.symbols.now c.args.at _ (no_assignment c.args.grammar) c.in_err-first.ensures.read n l))

pub returns-in_err-after-clause-read : goal.returns-in_err-after-clause-read
returns-in_err-after-clause-read c =
    let p = err_from_is_err_and c.from_residual-in_err-after.result c.from_residual-in_err-after.ensures.1 in
    let i = c.loop-alloc.invariant in
    rw (p.1, p.2) (λ n l. mapped_fails (λ _. tt) c.args.symbols.now _ _ (refuses is_comma (assignment_reader c.args.grammar) (mark_reader (codes ",")) c.args.symbols.now c.args.at i.0 c.loop-alloc.here _ i.1 (sym c.loop-alloc-test.true ∙ c.begins_with_mark.ensures) c.in_err-after.ensures.read n l))

pub returns : goal.returns
returns c =
    let i = c.loop-alloc.invariant in
    record {
      within = (i.1.passed, i.1.within);
      read = λ n l. mapped_reads (λ _. tt) _ i.0 _ (ends is_comma (assignment_reader c.args.grammar) (mark_reader (codes ",")) c.args.symbols.now c.args.at i.0 c.loop-alloc.here i.1 (sym c.loop-alloc-test.false ∙ c.begins_with_mark.ensures) n l);
    }
