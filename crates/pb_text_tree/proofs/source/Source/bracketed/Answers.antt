use Rattle.std.proofs.Common.{◌+◌, sym, ◌∙◌, arith, length}
use Rattle.std.proofs.lemmas.Result.{err_from_is_err_and}
use Rattle.pb_text_tree.specs.Grammar.{AfterDomain, AfterWords, Dotted, ExtensionClosed, mark_at}
use Rattle.pb_text_tree.specs.Seen.{text_of}
use Rattle.pb_text_tree.specs.View.{name_view}
use Rattle.pb_text_tree.proofs.StepLemmas.{answers_true, answers_false, then_answers, then_answers_err, further}
use Rattle.pb_text_tree.proofs.source.Source.bracketed.Goals as goal

pub returns-in_err-name-clause-read : goal.returns-in_err-name-clause-read
returns-in_err-name-clause-read c =
    let x = text_of c.args.self.now in
    let p = err_from_is_err_and c.from_residual.result c.from_residual.ensures.1 in
    rw (p.1, p.2) (then_answers_err (Dotted x (c.args.at + 1)) (AfterWords x) _ c.in_err-name.ensures.read)

pub returns-then-is_mark-clause-read : goal.returns-then-is_mark-clause-read
returns-then-is_mark-clause-read c =
    let x = text_of c.args.self.now in
    let w = c.in_ok-name.name.items in
    let n = c.in_ok-name.close in
    then_answers name_view (Dotted x (c.args.at + 1)) (AfterWords x) w n c.after_domain.result c.in_ok-name.ensures.read
    (answers_true name_view (mark_at x 47 n) (AfterDomain x w n) (ExtensionClosed x w n) c.after_domain.result (sym c.is_mark.ensures.is ∙ c.if-is_mark.true) c.after_domain.ensures.read)

pub returns-clause-read : goal.returns-clause-read
returns-clause-read c =
    let x = text_of c.args.self.now in
    let w = c.in_ok-name.name.items in
    let n = c.in_ok-name.close in
    then_answers name_view (Dotted x (c.args.at + 1)) (AfterWords x) w n c.closed.result c.in_ok-name.ensures.read
    (answers_false name_view (mark_at x 47 n) (AfterDomain x w n) (ExtensionClosed x w n) c.closed.result (sym c.is_mark.ensures.is ∙ c.if-is_mark.false) c.closed.ensures.read)

pub returns-then-is_mark-clause-within : goal.returns-then-is_mark-clause-within
returns-then-is_mark-clause-within c = further c.after_domain.result c.args.at c.in_ok-name.close (length c.args.self.now.tokens.now) (let w = c.in_ok-name.ensures.within.0 in omega arith) c.after_domain.ensures.within

pub returns-clause-within : goal.returns-clause-within
returns-clause-within c = further c.closed.result c.args.at c.in_ok-name.close (length c.args.self.now.tokens.now) (let w = c.in_ok-name.ensures.within.0 in omega arith) c.closed.ensures.within
