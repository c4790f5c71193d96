use Rattle.std.proofs.Common.{[], ◌∷◌, ◌++◌, codes, option_map, refl, sym, ◌∙◌, arith}
use Rattle.std.proofs.lemmas.Result.{err_from_is_err_and}
use Rattle.pb_declarations.specs.View.{method_view}
use Rattle.pb_source_tokens.specs.Readers.Forms.{mark_reader}
use Rattle.pb_source_tokens.proofs.UntilSteps.{starts, goes_on, refuses, ends}
use Rattle.pb_source.specs.Meaning.{those_said}
use Rattle.pb_source.proofs.SaidSteps.{said_more}
use Rattle.pb_source.specs.Readers.Lines.{is_closing, service_statement_reader}
use Rattle.pb_source.proofs.NoStatement.{no_service_statement}
use Rattle.pb_source.proofs.parsing.services.service_body.Goals as goal

pub loop-alloc-init : goal.loop-alloc-init
loop-alloc-init c = ([], rw c.new-methods.ensures.items refl, starts is_closing (service_statement_reader c.args.grammar) (mark_reader (codes "}")) c.args.symbols.now c.args.at c.requires)

pub loop-alloc-preserved : goal.loop-alloc-preserved
loop-alloc-preserved c =
    let i = c.loop-alloc.invariant in (
      i.0 ++ (option_map method_view c.in_ok-said.said) ∷ [],
      said_more method_view _ i.0 c.in_ok-said.said _ i.1 c.in_ok-push_said.ensures,
      goes_on is_closing (service_statement_reader c.args.grammar) (mark_reader (codes "}")) c.args.symbols.now c.args.at i.0 c.loop-alloc.here c.in_ok-said.after (option_map method_view c.in_ok-said.said) i.2 c.in_ok-said.ensures.within.0 c.in_ok-said.ensures.within.1
          (sym c.loop-alloc-test.true ∙ c.begins_with_mark.ensures) c.in_ok-said.ensures.read,
    )

pub returns-in_err-said-clause-read : goal.returns-in_err-said-clause-read
returns-in_err-said-clause-read c =
    let p = err_from_is_err_and c.from_residual.result c.from_residual.ensures.1 in
    let i = c.loop-alloc.invariant in
    rw (p.1, p.2) (refuses is_closing (service_statement_reader c.args.grammar) (mark_reader (codes "}")) c.args.symbols.now those_said c.args.at i.0 c.loop-alloc.here _ i.2 (sym c.loop-alloc-test.true ∙ c.begins_with_mark.ensures) (no_service_statement c.args.grammar) c.in_err-said.ensures.read)

pub returns : goal.returns
returns c =
    let i = c.loop-alloc.invariant in
    record {
      within = (let a = i.2.passed in let b = c.in_ok-after.ensures.within.0 in omega arith, c.in_ok-after.ensures.within.1);
      read = rw i.1 (ends is_closing (service_statement_reader c.args.grammar) (mark_reader (codes "}")) c.args.symbols.now those_said c.args.at i.0 c.loop-alloc.here c.in_ok-after.after i.2 (sym c.loop-alloc-test.false ∙ c.begins_with_mark.ensures) c.in_ok-after.ensures.read);
    }
