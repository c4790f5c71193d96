use Rattle.std.proofs.Common.{◌++◌, ap, ◌∙◌, subst, length}
use Rattle.std.proofs.lemmas.Result.{err_from_is_err_and}
use Rattle.pb_text_tree.specs.Grammar.{IsWord, MoreWords}
use Rattle.pb_text_tree.specs.Seen.{text_of}
use Rattle.pb_text_tree.specs.Steps.{Answers}
use Rattle.pb_text_tree.proofs.StepLemmas.{then_answers, then_answers_err, further_than}
use Rattle.pb_text_tree.proofs.source.Source.dotted.Goals as goal

pub returns-in_err-first-clause-read : goal.returns-in_err-first-clause-read
returns-in_err-first-clause-read c =
    let x = text_of c.args.self.now in
    let p = err_from_is_err_and c.from_residual.result c.from_residual.ensures.1 in
    rw (p.1, p.2) (then_answers_err (IsWord x c.args.at) (MoreWords x) _ c.in_err-first.ensures.read)

pub returns-clause-read : goal.returns-clause-read
returns-clause-read c =
    let x = text_of c.args.self.now in
    then_answers (λ v. v.items) (IsWord x c.args.at) (MoreWords x) c.in_ok-first.first.now c.in_ok-first.after c.more_words.result c.in_ok-first.ensures.read
    (subst (λ w. Answers (λ v. v.items) (MoreWords x w c.in_ok-first.after) c.more_words.result)
    (c.in_ok-extend_from_slice.ensures.items ∙ ap (λ b. b ++ c.in_ok-first.first.now) c.new-name.ensures.items) c.more_words.ensures.read)

pub returns-clause-within : goal.returns-clause-within
returns-clause-within c = further_than c.more_words.result c.args.at c.in_ok-first.after (length c.args.self.now.tokens.now) c.in_ok-first.ensures.within.0 c.more_words.ensures.within
