use Rattle.std.proofs.Common.{◌+◌, ap, sym, ◌∙◌, Err, inr, arith, length}
use Rattle.pb_text_tree.specs.Grammar.{PlacedAt, Unexpected, mark_at}
use Rattle.pb_text_tree.specs.Seen.{text_of}
use Rattle.pb_text_tree.specs.View.{placed_view}
use Rattle.pb_text_tree.proofs.StepLemmas.{answers_true, choose_false, further}
use Rattle.pb_text_tree.proofs.source.Source.next_scalar.Goals as goal

pub returns-then-is_mark-clause-read : goal.returns-then-is_mark-clause-read
returns-then-is_mark-clause-read c =
    let x = text_of c.args.self.now in
    let at = c.args.at in
    answers_true placed_view (mark_at x 44 at) (PlacedAt x (at + 1)) (Unexpected x at) c.placed.result (sym c.is_mark.ensures.is ∙ c.if-is_mark.true) c.placed.ensures.read

pub returns-clause-read : goal.returns-clause-read
returns-clause-read c =
    let x = text_of c.args.self.now in
    let at = c.args.at in
    inr (choose_false (mark_at x 44 at) (PlacedAt x (at + 1)) (Unexpected x at) _ (sym c.is_mark.ensures.is ∙ c.if-is_mark.false) (ap Err c.unexpected.ensures))

pub returns-then-is_mark-clause-within : goal.returns-then-is_mark-clause-within
returns-then-is_mark-clause-within c = further c.placed.result c.args.at (c.args.at + 1) (length c.args.self.now.tokens.now) (omega arith) c.placed.ensures.within
