use Rattle.std.proofs.Common.{ap, Err, inr, eq-eqb, ne_eqb}
use Rattle.std.specs.Prelude.{◌==◌}
use Rattle.pb_text_tree.specs.Grammar.{Bracketed, Unexpected}
use Rattle.pb_text_tree.specs.Seen.{text_of}
use Rattle.pb_text_tree.specs.View.{name_view}
use Rattle.pb_text_tree.proofs.StepLemmas.{answers_true, choose_false}
use Rattle.pb_text_tree.proofs.source.Source.mark_name.Goals as goal

pub returns-then-mark-eq91-clause-read : goal.returns-then-mark-eq91-clause-read
returns-then-mark-eq91-clause-read c =
    let x = text_of c.args.self.now in
    answers_true name_view (c.args.mark == 91) (Bracketed x c.args.at) (Unexpected x c.args.at) c.bracketed.result (eq-eqb c.args.mark 91 c.if-mark-eq91.true) c.bracketed.ensures.read

pub returns-clause-read : goal.returns-clause-read
returns-clause-read c =
    let x = text_of c.args.self.now in
    inr (choose_false (c.args.mark == 91) (Bracketed x c.args.at) (Unexpected x c.args.at) _ (ne_eqb c.args.mark 91 c.if-mark-eq91.false) (ap Err c.unexpected.ensures))
