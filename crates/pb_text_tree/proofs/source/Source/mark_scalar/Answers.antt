use Rattle.std.proofs.Common.{◌+◌, eq-eqb, ne_eqb, true, false, arith, length}
use Rattle.std.specs.Prelude.{◌==◌}
use Rattle.std.proofs.lemmas.Result.{err_from_is_err_and}
use Rattle.pb_text_tree.specs.Grammar.{IsPlain}
use Rattle.pb_text_tree.specs.Seen.{text_of}
use Rattle.pb_text_tree.specs.View.{scalar_view}
use Rattle.pb_text_tree.proofs.StepLemmas.{answers_true, choose_false, or_weaker, further}
use Rattle.pb_text_tree.proofs.source.Source.mark_scalar.Goals as goal

pub returns-then-mark-eq45-clause-read : goal.returns-then-mark-eq45-clause-read
returns-then-mark-eq45-clause-read c =
    let x = text_of c.args.self.now in
    let at = c.args.at in
    answers_true scalar_view (c.args.mark == 45) (IsPlain x true (at + 1)) (IsPlain x false at) c.plain.result (eq-eqb c.args.mark 45 c.if-mark-eq45.true) c.plain.ensures.read

pub returns-in_err-scalar-clause-read : goal.returns-in_err-scalar-clause-read
returns-in_err-scalar-clause-read c =
    let x = text_of c.args.self.now in
    let at = c.args.at in
    let p = err_from_is_err_and c.from_residual.result c.from_residual.ensures.1 in
    rw (p.1, p.2)
    (or_weaker (λ h. choose_false (c.args.mark == 45) (IsPlain x true (at + 1)) (IsPlain x false at) _ (ne_eqb c.args.mark 45 c.if-mark-eq45.false) h) c.in_err-scalar.ensures.read)

pub returns-clause-read : goal.returns-clause-read
returns-clause-read c =
    let x = text_of c.args.self.now in
    let at = c.args.at in
    choose_false (c.args.mark == 45) (IsPlain x true (at + 1)) (IsPlain x false at) _ (ne_eqb c.args.mark 45 c.if-mark-eq45.false) c.in_ok-scalar.ensures.read

pub returns-then-mark-eq45-clause-within : goal.returns-then-mark-eq45-clause-within
returns-then-mark-eq45-clause-within c = further c.plain.result c.args.at (c.args.at + 1) (length c.args.self.now.tokens.now) (omega arith) c.plain.ensures.within
