use Rattle.std.proofs.Common.{map, ap, ◌∙◌, subst, arith, length}
use Rattle.std.proofs.lemmas.List.{map_push}
use Rattle.std.proofs.lemmas.Result.{err_from_is_err_and}
use Rattle.pb_text_tree.specs.Grammar.{AfterScalar, MoreScalars, PlacedAt, joined_placed}
use Rattle.pb_text_tree.specs.Seen.{text_of}
use Rattle.pb_text_tree.specs.Steps.{Answers}
use Rattle.pb_text_tree.specs.View.{placed_view}
use Rattle.pb_text_tree.proofs.StepLemmas.{then_answers, then_answers_err, further}
use Rattle.pb_text_tree.proofs.source.Source.scalars.Goals as goal

pub returns-in_err-first-clause-read : goal.returns-in_err-first-clause-read
returns-in_err-first-clause-read c =
    let x = text_of c.args.self.now in
    let p = err_from_is_err_and c.from_residual.result c.from_residual.ensures.1 in
    rw (p.1, p.2) (then_answers_err (PlacedAt x c.args.at) (AfterScalar x) _ c.in_err-first.ensures.read)

pub returns-clause-read : goal.returns-clause-read
returns-clause-read c =
    let x = text_of c.args.self.now in
    then_answers (λ v. map placed_view v.items) (PlacedAt x c.args.at) (AfterScalar x) (placed_view c.in_ok-first.first) c.in_ok-first.after c.more_scalars.result c.in_ok-first.ensures.read
    (subst (λ ps. Answers (λ v. map placed_view v.items) (MoreScalars x ps c.in_ok-first.after) c.more_scalars.result)
    (ap (map placed_view) c.in_ok-push.ensures.items ∙ map_push placed_view c.new-items.result.items _ ∙ ap (λ vs. joined_placed (map placed_view vs) (placed_view c.in_ok-first.first)) c.new-items.ensures.items)
    c.more_scalars.ensures.read)

pub returns-clause-within : goal.returns-clause-within
returns-clause-within c = further c.more_scalars.result c.args.at c.in_ok-first.after (length c.args.self.now.tokens.now) (let w = c.in_ok-first.ensures.within.0 in omega arith) c.more_scalars.ensures.within
