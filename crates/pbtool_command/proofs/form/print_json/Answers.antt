use Rattle.std.proofs.Common.{[], refl}
use Rattle.pb_json.specs.Answers.{refused_view}
use Rattle.pbtool_command.specs.JsonAnswer.{no_form}
use Rattle.pbtool_command.proofs.JsonSteps.{cut_comes, line_comes, nothing_sent}
use Rattle.pbtool_command.proofs.form.print_json.Goals as goal

pub returns-in-Ok : goal.returns-in-Ok
returns-in-Ok g c =
    line_comes g.O.Output.written g.O.Output.failures c.args.out.now c.write_json_line.new.out c.args.layout c.args.names c.args.message.now c.in-Ok.ensures

pub returns-in-Err-Refused : goal.returns-in-Err-Refused
returns-in-Err-Refused g c =
    let h = rw c.in-Err-Refused.field-0-is at c.in-Err-Refused.ensures in (
      [],
      no_form {r = refused_view c.in-Err-Refused.refusal} h.0 refl,
      nothing_sent g.O.Output.written g.O.Output.failures c.args.out.now c.write_json_line.new.out h.1,
      refl,
    )

pub returns-in-Err-Output : goal.returns-in-Err-Output
returns-in-Err-Output g c =
    cut_comes g.O.Output.written g.O.Output.failures c.args.out.now c.write_json_line.new.out c.args.layout c.args.names c.args.message.now _ refl
    (rw c.in-Err-Output.field-0-is at c.in-Err-Output.ensures)
