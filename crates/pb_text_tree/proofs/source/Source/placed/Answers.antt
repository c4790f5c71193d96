use Rattle.std.proofs.Common.{ap, Ok}
use Rattle.std.proofs.lemmas.Result.{err_from_is_err_and}
use Rattle.pb_text_tree.specs.Grammar.{AsPlaced, ScalarAt}
use Rattle.pb_text_tree.specs.Seen.{text_of}
use Rattle.pb_text_tree.specs.View.{scalar_view}
use Rattle.pb_text_tree.proofs.StepLemmas.{then_ok, then_answers_err}
use Rattle.pb_text_tree.proofs.source.Source.placed.Goals as goal

pub returns-in_err-scalar-clause-read : goal.returns-in_err-scalar-clause-read
returns-in_err-scalar-clause-read c =
    let x = text_of c.args.self.now in
    let p = err_from_is_err_and c.from_residual.result c.from_residual.ensures.1 in
    rw (p.1, p.2) (then_answers_err (ScalarAt x c.args.at) (AsPlaced x c.args.at) _ c.in_err-scalar.ensures.read)

pub returns-clause-read : goal.returns-clause-read
returns-clause-read c =
    let x = text_of c.args.self.now in
    then_ok (ScalarAt x c.args.at) (AsPlaced x c.args.at) (scalar_view c.in_ok-scalar.scalar) c.in_ok-scalar.after _ c.in_ok-scalar.ensures.read
    (ap (λ n. Ok ((n, scalar_view c.in_ok-scalar.scalar), c.in_ok-scalar.after)) c.byte_at-at.ensures)
