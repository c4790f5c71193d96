use Rattle.std.proofs.Common.{ap, sym, ◌∙◌, arith, not}
use Rattle.std.proofs.lemmas.Result.{err_from_is_err_and}
use Rattle.pb_text_tree.specs.Grammar.{AnotherWord, no_point, with_word}
use Rattle.pb_text_tree.specs.Seen.{text_of}
use Rattle.pb_text_tree.proofs.StepLemmas.{or_weaker, reach_on, reach_ends, reach_fails}
use Rattle.pb_text_tree.proofs.source.Source.more_words.Goals as goal

pub words-preserved : goal.words-preserved
words-preserved c =
    let x = text_of c.args.self.now in
    record {
      passed = omega (arith, c.in_ok-word.ensures.within);
      within = c.in_ok-word.ensures.within.1;
      read = rw c.in_ok-push_word.ensures
          (reach_on (no_point x) (AnotherWord x) _ _ _ c.words.at _ c.in_ok-word.after c.words.invariant.read (ap not (sym c.is_mark.ensures.is ∙ c.words-test.true))
          (ap (with_word c.words.name.items) c.in_ok-word.ensures.read));
    }

pub returns-in_err-word-clause-read : goal.returns-in_err-word-clause-read
returns-in_err-word-clause-read c =
    let x = text_of c.args.self.now in
    let p = err_from_is_err_and c.from_residual.result c.from_residual.ensures.1 in
    rw (p.1, p.2)
    (or_weaker (λ h. reach_fails (no_point x) (AnotherWord x) _ _ _ c.words.at _ c.words.invariant.read (ap not (sym c.is_mark.ensures.is ∙ c.words-test.true)) (ap (with_word c.words.name.items) h))
    c.in_err-word.ensures.read)

pub returns-clause-read : goal.returns-clause-read
returns-clause-read c =
    let x = text_of c.args.self.now in
    reach_ends (no_point x) (AnotherWord x) _ _ _ c.words.at c.words.invariant.read (ap not (sym c.is_mark.ensures.is ∙ c.words-test.false))
