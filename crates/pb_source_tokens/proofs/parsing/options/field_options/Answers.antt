use Rattle.std.proofs.Common.{codes, sym, ◌∙◌}
use Rattle.std.proofs.lemmas.Result.{err_from_is_err_and}
use Rattle.pb_source_tokens.specs.Readers.Forms.{mark_reader}
use Rattle.pb_source_tokens.specs.Readers.Phrases.{is_comma, field_option_reader}
use Rattle.pb_source_tokens.proofs.SeparatedSteps.{starts, goes_on, refuses_first, refuses, ends}
use Rattle.pb_source_tokens.proofs.NoSymbols.{no_field_option}
use Rattle.pb_source_tokens.proofs.parsing.options.field_options.Goals as goal

pub loop-alloc-init : goal.loop-alloc-init
loop-alloc-init c =
    rw (c.in_ok-push.ensures.items, c.new-options.ensures.items)
    (starts is_comma (field_option_reader c.args.grammar) (mark_reader (codes ",")) c.args.symbols.now c.args.at c.in_ok-first.after c.in_ok-first.first c.in_ok-first.ensures.within.0 c.in_ok-first.ensures.within.1 c.in_ok-first.ensures.read)

pub loop-alloc-preserved : goal.loop-alloc-preserved
loop-alloc-preserved c =
    rw c.in_ok-push-2.ensures.items
    (goes_on is_comma (field_option_reader c.args.grammar) (mark_reader (codes ",")) c.args.symbols.now c.args.at c.loop-alloc.options.items c.loop-alloc.here c.in_ok-said.after c.in_ok-said.said
    c.loop-alloc.invariant c.in_ok-said.ensures.within.0 c.in_ok-said.ensures.within.1 (sym c.loop-alloc-test.true ∙ c.begins_with_mark.ensures) c.in_ok-said.ensures.read)

pub returns-in_err-first-clause-read : goal.returns-in_err-first-clause-read
returns-in_err-first-clause-read c =
    let p = err_from_is_err_and c.from_residual.result c.from_residual.ensures.1 in
    rw (p.1, p.2) (refuses_first is_comma (field_option_reader c.args.grammar) (mark_reader (codes ",")) c.args.symbols.now c.args.at _ (no_field_option c.args.grammar) c.in_err-first.ensures.read)

pub returns-in_err-said-clause-read : goal.returns-in_err-said-clause-read
returns-in_err-said-clause-read c =
    let p = err_from_is_err_and c.from_residual-in_err-said.result c.from_residual-in_err-said.ensures.1 in
    rw (p.1, p.2) (refuses is_comma (field_option_reader c.args.grammar) (mark_reader (codes ",")) c.args.symbols.now c.args.at c.loop-alloc.options.items c.loop-alloc.here _
    c.loop-alloc.invariant (sym c.loop-alloc-test.true ∙ c.begins_with_mark.ensures) c.in_err-said.ensures.read)

pub returns : goal.returns
returns c = record {
  within = (c.loop-alloc.invariant.passed, c.loop-alloc.invariant.within);
  read = ends is_comma (field_option_reader c.args.grammar) (mark_reader (codes ",")) c.args.symbols.now c.args.at c.loop-alloc.options.items c.loop-alloc.here c.loop-alloc.invariant (sym c.loop-alloc-test.false ∙ c.begins_with_mark.ensures);
}
