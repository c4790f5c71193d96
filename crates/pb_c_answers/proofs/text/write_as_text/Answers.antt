-- What went out whole is a text of the message.
use Rattle.std.proofs.Common.{◌≡◌, List, ℕ, subst}
use Rattle.pb_c_answers.specs.Reporting.{IsLaid}
use Rattle.pb_c_answers.proofs.text.write_as_text.Goals as goal

pub returns-in-Ok-clause-written : goal.returns-in-Ok-clause-written
returns-in-Ok-clause-written c = λ done.
    let sent = rw (c.view.ensures, c.form.ensures) at c.in-Ok.ensures in
    let new = c.new-text.ensures in let bytes = c.bytes.ensures in let sends = sent.2.1 in
    let same : c.bytes.result.now ≡ sent.0 = cc in
    (sent.0, sent.1, subst (λ (s : List ℕ). IsLaid s c.args.out.now c.write_out.new.out c.write_out.new.size) same c.write_out.ensures)
