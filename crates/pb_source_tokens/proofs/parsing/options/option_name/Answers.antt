use Rattle.std.proofs.Common.{◌≡◌, [], ◌∷◌, ◌++◌, codes, ap, sym, ◌∙◌}
use Rattle.std.proofs.lemmas.Result.{err_from_is_err_and}
use Rattle.std.proofs.lemmas.List.{map_push}
use Rattle.pb_source_tokens.specs.Readers.Forms.{mark_reader}
use Rattle.pb_source_tokens.specs.Readers.Phrases.{is_dot, part_reader, optname_reader}
use Rattle.pb_source_tokens.specs.PhraseView.{words_view}
use Rattle.pb_source_tokens.proofs.SeparatedSteps.{starts, goes_on, refuses_first, refuses, ends}
use Rattle.pb_source_tokens.proofs.NoSymbols.{no_part}
use Rattle.pb_source_tokens.proofs.parsing.options.option_name.Goals as goal

pub loop-alloc-init : goal.loop-alloc-init
loop-alloc-init c =
    rw (c.in_ok-push.ensures.items, c.new-parts.ensures.items)
    (starts is_dot (part_reader c.args.grammar) (mark_reader (codes ".")) c.args.symbols.now c.args.at c.in_ok-first.after c.in_ok-first.first.now c.in_ok-first.ensures.within.0 c.in_ok-first.ensures.within.1 c.in_ok-first.ensures.read)

pub loop-alloc-preserved : goal.loop-alloc-preserved
loop-alloc-preserved c =
    let pushed : words_view c.push-in-loop-alloc.new.self.items ≡ words_view c.loop-alloc.parts.items ++ c.in_ok-word.word.now ∷ [] =
    ap words_view c.in_ok-push-2.ensures.items ∙ map_push (λ w. w.now) c.loop-alloc.parts.items c.in_ok-word.word in
    rw pushed
    (goes_on is_dot (part_reader c.args.grammar) (mark_reader (codes ".")) c.args.symbols.now c.args.at (words_view c.loop-alloc.parts.items) c.loop-alloc.here c.in_ok-word.after c.in_ok-word.word.now
    c.loop-alloc.invariant c.in_ok-word.ensures.within.0 c.in_ok-word.ensures.within.1 (sym c.loop-alloc-test.true ∙ c.begins_with_mark.ensures) c.in_ok-word.ensures.read)

pub returns-in_err-first-clause-read : goal.returns-in_err-first-clause-read
unfolding optname_reader
returns-in_err-first-clause-read c =
    let p = err_from_is_err_and c.from_residual.result c.from_residual.ensures.1 in
    rw (p.1, p.2) (refuses_first is_dot (part_reader c.args.grammar) (mark_reader (codes ".")) c.args.symbols.now c.args.at _ (no_part c.args.grammar) c.in_err-first.ensures.read)

pub returns-in_err-word-clause-read : goal.returns-in_err-word-clause-read
unfolding optname_reader
returns-in_err-word-clause-read c =
    let p = err_from_is_err_and c.from_residual-in_err-word.result c.from_residual-in_err-word.ensures.1 in
    rw (p.1, p.2) (refuses is_dot (part_reader c.args.grammar) (mark_reader (codes ".")) c.args.symbols.now c.args.at (words_view c.loop-alloc.parts.items) c.loop-alloc.here _
    c.loop-alloc.invariant (sym c.loop-alloc-test.true ∙ c.begins_with_mark.ensures) c.in_err-word.ensures.read)

pub returns : goal.returns
unfolding optname_reader
returns c = record {
  within = (c.loop-alloc.invariant.passed, c.loop-alloc.invariant.within);
  read = ends is_dot (part_reader c.args.grammar) (mark_reader (codes ".")) c.args.symbols.now c.args.at (words_view c.loop-alloc.parts.items) c.loop-alloc.here c.loop-alloc.invariant (sym c.loop-alloc-test.false ∙ c.begins_with_mark.ensures);
}
