use Rattle.std.proofs.Common.{◌+◌, arith, length}
use Rattle.std.proofs.lemmas.Result.{err_from_is_err_and}
use Rattle.pb_text_tree.specs.Grammar.{AnyClosed, Dotted}
use Rattle.pb_text_tree.specs.Seen.{text_of}
use Rattle.pb_text_tree.specs.View.{name_view}
use Rattle.pb_text_tree.proofs.StepLemmas.{then_answers, then_answers_err, further}
use Rattle.pb_text_tree.proofs.source.Source.after_domain.Goals as goal

pub returns-in_err-message-clause-read : goal.returns-in_err-message-clause-read
returns-in_err-message-clause-read c =
    let x = text_of c.args.self.now in
    let p = err_from_is_err_and c.from_residual.result c.from_residual.ensures.1 in
    rw (p.1, p.2) (then_answers_err (Dotted x (c.args.at + 1)) (AnyClosed x c.args.domain.items) _ c.in_err-message.ensures.read)

pub returns-clause-read : goal.returns-clause-read
returns-clause-read c =
    let x = text_of c.args.self.now in
    then_answers name_view (Dotted x (c.args.at + 1)) (AnyClosed x c.args.domain.items) c.in_ok-message.message.items c.in_ok-message.close c.closed.result c.in_ok-message.ensures.read
    c.closed.ensures.read

pub returns-clause-within : goal.returns-clause-within
returns-clause-within c = further c.closed.result c.args.at c.in_ok-message.close (length c.args.self.now.tokens.now) (let w = c.in_ok-message.ensures.within.0 in omega arith) c.closed.ensures.within
