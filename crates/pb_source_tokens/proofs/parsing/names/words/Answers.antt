use Rattle.std.proofs.Common.{codes, ap, ◌∙◌, ◌∷◌, [], ◌++◌, ◌≡◌, sym}
use Rattle.std.proofs.lemmas.Result.{err_from_is_err_and}
use Rattle.std.proofs.lemmas.List.{map_push}
use Rattle.pb_source_tokens.specs.Readers.Forms.{mark_reader}
use Rattle.pb_source_tokens.specs.Readers.Phrases.{is_dot, name_reader, fullname_reader}
use Rattle.pb_source_tokens.specs.PhraseView.{words_view}
use Rattle.pb_source_tokens.proofs.SeparatedSteps.{starts, goes_on, refuses_first, refuses, ends}
use Rattle.pb_source_tokens.proofs.NoSymbols.{no_name}
use Rattle.pb_source_tokens.proofs.parsing.names.words.Goals as goal

pub loop-words-init : goal.loop-words-init
loop-words-init c =
    rw (c.in_ok-push.ensures.items, c.new-words.ensures.items)
    (starts is_dot (λ _. name_reader) (mark_reader (codes ".")) c.args.symbols.now c.args.at c.in_ok-first.after c.in_ok-first.first.now c.in_ok-first.ensures.within.0 c.in_ok-first.ensures.within.1 (λ n l. c.in_ok-first.ensures.read))

pub loop-words-preserved : goal.loop-words-preserved
loop-words-preserved c =
    let pushed : words_view c.push-in-loop-words.new.self.items ≡ words_view c.loop-words.words.items ++ c.in_ok-word.word.now ∷ [] =
    ap words_view c.in_ok-push-2.ensures.items ∙ map_push (λ w. w.now) c.loop-words.words.items c.in_ok-word.word in
    rw pushed
    (goes_on is_dot (λ _. name_reader) (mark_reader (codes ".")) c.args.symbols.now c.args.at (words_view c.loop-words.words.items) c.loop-words.here c.in_ok-word.after c.in_ok-word.word.now
    c.loop-words.invariant c.in_ok-word.ensures.within.0 c.in_ok-word.ensures.within.1 (sym c.loop-words-test.true ∙ c.begins_with_mark.ensures) (λ n l. c.in_ok-word.ensures.read))

pub returns-in_err-first-clause-read : goal.returns-in_err-first-clause-read
unfolding fullname_reader
returns-in_err-first-clause-read c =
    let p = err_from_is_err_and c.from_residual.result c.from_residual.ensures.1 in
    rw (p.1, p.2) (refuses_first is_dot (λ _. name_reader) (mark_reader (codes ".")) c.args.symbols.now c.args.at _ no_name (λ n l. c.in_err-first.ensures.read))

pub returns-in_err-word-clause-read : goal.returns-in_err-word-clause-read
unfolding fullname_reader
returns-in_err-word-clause-read c =
    let p = err_from_is_err_and c.from_residual-in_err-word.result c.from_residual-in_err-word.ensures.1 in
    rw (p.1, p.2) (refuses is_dot (λ _. name_reader) (mark_reader (codes ".")) c.args.symbols.now c.args.at (words_view c.loop-words.words.items) c.loop-words.here _
    c.loop-words.invariant (sym c.loop-words-test.true ∙ c.begins_with_mark.ensures) (λ n l. c.in_err-word.ensures.read))

pub returns : goal.returns
unfolding fullname_reader
returns c = record {
  within = (c.loop-words.invariant.passed, c.loop-words.invariant.within);
  read = ends is_dot (λ _. name_reader) (mark_reader (codes ".")) c.args.symbols.now c.args.at (words_view c.loop-words.words.items) c.loop-words.here c.loop-words.invariant
      (sym c.loop-words-test.false ∙ c.begins_with_mark.ensures);
}
