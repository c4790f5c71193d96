-- What went out whole is a JSON text of the message, no part of which is refused.
use Rattle.std.proofs.Common.{◌≡◌, List, ℕ, subst, None}
use Rattle.pb_json.specs.Refusals.{refused}
use Rattle.pb_c_answers.specs.Reporting.{IsLaid}
use Rattle.pb_c_answers.proofs.json.writing.write_as_json.Goals as goal

pub returns-in-Ok-clause-written : goal.returns-in-Ok-clause-written
returns-in-Ok-clause-written c = λ done.
    let sent = rw c.view.ensures at c.in-Ok.ensures.written in
    let new = c.new-json.ensures in let bytes = c.bytes.ensures in let sends = sent.2.1 in
    let same : c.bytes.result.now ≡ sent.0 = cc in
    (sent.0, sent.1.1, subst (λ (s : List ℕ). IsLaid s c.args.out.now c.write_out.new.out c.write_out.new.size) same c.write_out.ensures)

pub returns-in-Ok-clause-refused : goal.returns-in-Ok-clause-refused
returns-in-Ok-clause-refused c = λ r is.
    let sent = rw c.view.ensures at c.in-Ok.ensures.written in let none : refused c.args.message.now ≡ None = sent.1.0 in
    absurd (cc)
