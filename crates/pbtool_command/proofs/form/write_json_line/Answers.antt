use Rattle.pbtool_command.proofs.JsonSteps.{line_cut, line_sent, unwritten}
use Rattle.pbtool_command.proofs.form.write_json_line.Goals as goal

pub returns-in-Err : goal.returns-in-Err
returns-in-Err g c =
    let failed = c.in-Err.ensures.failed in
    unwritten g.O.Output.written g.O.Output.failures c.args.out.now c.args.layout c.args.names c.args.message.now c.put_json_line.new.out c.in-Err.error failed.0 failed.1

pub returns-in-Ok : goal.returns-in-Ok
returns-in-Ok g c =
    line_sent g.O.Output.written g.O.Output.failures c.args.out.now c.args.layout c.args.names c.args.message.now c.put_json_line.new.out c.finish.new.out c.new-sink.ensures
    c.in_default.ensures.put c.in-Ok.ensures

pub returns-in-Err-finish : goal.returns-in-Err-finish
returns-in-Err-finish g c =
    line_cut g.O.Output.written g.O.Output.failures c.args.out.now c.args.layout c.args.names c.args.message.now c.put_json_line.new.out c.finish.new.out c.new-sink.ensures
    c.in_default.ensures.put c.in-Err-finish.field-0 c.in-Err-finish.ensures
