use Rattle.std.proofs.Common.{refl, inl, inr}
use Rattle.pb_output.specs.Sending.{Cut, Sent}
use Rattle.pbtool_command.specs.CompatAnswer.{verdict_answer}
use Rattle.pbtool_command.proofs.CompatSteps.{lines_come, lines_text}
use Rattle.pbtool_command.proofs.compat.print.Goals as goal

pub returns-in-Ok : goal.returns-in-Ok
returns-in-Ok g c =
    let v = c.args.verdict.now in
    let sent = rw c.deref.ensures.value at c.in-Ok.ensures in
    lines_come (Sent g.O.Output.written g.O.Output.failures c.args.out.now c.write_text.new.out)
    (Cut g.O.Output.written g.O.Output.failures c.args.out.now c.write_text.new.out) v.text.items v.breaks c.answer_of.result sent c.answer_of.ensures

pub returns-in-Err : goal.returns-in-Err
returns-in-Err g c =
    let v = c.args.verdict.now in
    let cut = rw c.deref.ensures.value at c.in-Err.ensures in
    inr (inl (v.text.items, refl, inl (verdict_answer v, refl, lines_text v.text.items v.breaks), cut, refl))
