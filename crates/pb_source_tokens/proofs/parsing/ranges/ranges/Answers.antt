use Rattle.std.proofs.Common.{codes, sym, ◌∙◌}
use Rattle.std.proofs.lemmas.Result.{err_from_is_err_and}
use Rattle.pb_source_tokens.specs.Readers.Forms.{mark_reader}
use Rattle.pb_source_tokens.specs.Readers.Phrases.{is_comma}
use Rattle.pb_source_tokens.specs.RangeView.{range_within}
use Rattle.pb_source_tokens.proofs.SeparatedSteps.{starts, goes_on, refuses_first, refuses, ends}
use Rattle.pb_source_tokens.proofs.NoSymbols.{no_range}
use Rattle.pb_source_tokens.proofs.parsing.ranges.ranges.Goals as goal

pub loop-within-init : goal.loop-within-init
loop-within-init c =
    rw (c.in_ok-push.ensures.items, c.new-ranges.ensures.items)
    (starts is_comma (λ _. range_within c.args.within) (mark_reader (codes ",")) c.args.symbols.now c.args.at c.in_ok-first.after c.in_ok-first.first c.in_ok-first.ensures.within.0 c.in_ok-first.ensures.within.1 (λ n l. c.in_ok-first.ensures.read))

pub loop-within-preserved : goal.loop-within-preserved
loop-within-preserved c =
    rw c.in_ok-push-2.ensures.items
    (goes_on is_comma (λ _. range_within c.args.within) (mark_reader (codes ",")) c.args.symbols.now c.args.at c.loop-within.ranges.items c.loop-within.here c.in_ok-range.after c.in_ok-range.range
    c.loop-within.invariant c.in_ok-range.ensures.within.0 c.in_ok-range.ensures.within.1 (sym c.loop-within-test.true ∙ c.begins_with_mark.ensures) (λ n l. c.in_ok-range.ensures.read))

pub returns-in_err-first-clause-read : goal.returns-in_err-first-clause-read
returns-in_err-first-clause-read c =
    let p = err_from_is_err_and c.from_residual.result c.from_residual.ensures.1 in
    rw (p.1, p.2) (refuses_first is_comma (λ _. range_within c.args.within) (mark_reader (codes ",")) c.args.symbols.now c.args.at _ (no_range c.args.within) (λ n l. c.in_err-first.ensures.read))

pub returns-in_err-range-clause-read : goal.returns-in_err-range-clause-read
returns-in_err-range-clause-read c =
    let p = err_from_is_err_and c.from_residual-in_err-range.result c.from_residual-in_err-range.ensures.1 in
    rw (p.1, p.2) (refuses is_comma (λ _. range_within c.args.within) (mark_reader (codes ",")) c.args.symbols.now c.args.at c.loop-within.ranges.items c.loop-within.here _
    c.loop-within.invariant (sym c.loop-within-test.true ∙ c.begins_with_mark.ensures) (λ n l. c.in_err-range.ensures.read))

pub returns : goal.returns
returns c = record {
  within = (c.loop-within.invariant.passed, c.loop-within.invariant.within);
  read = ends is_comma (λ _. range_within c.args.within) (mark_reader (codes ",")) c.args.symbols.now c.args.at c.loop-within.ranges.items c.loop-within.here c.loop-within.invariant (sym c.loop-within-test.false ∙ c.begins_with_mark.ensures);
}
