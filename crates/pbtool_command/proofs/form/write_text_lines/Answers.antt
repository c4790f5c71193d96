-- The text, and then what ends its last line.
use Rattle.std.proofs.Common.{◌++◌, refl}
use Rattle.pb_listing.specs.Putting.{PutsSome}
use Rattle.pb_listing.proofs.MeantLemmas.{finished_some}
use Rattle.pb_output.proofs.SinkLemmas.{puts_then}
use Rattle.pbtool_command.specs.TextAnswer.{AreTextLines, text_end}
use Rattle.pbtool_command.proofs.form.write_text_lines.Goals as goal

pub returns : goal.returns
returns g c =
    let text = rw c.view.ensures at c.put_text.ensures in
    let end = rw c.text_end.ensures at c.put.ensures in
    let lines : PutsSome g.O.Output.written g.O.Output.failures c.args.out.now c.put.new.out c.new-sink.result c.put.new.self (AreTextLines c.args.form c.args.message.now) =
    (text.0 ++ text_end c.args.form.layout, (text.0, text.1, refl), puts_then text.2 end) in
    finished_some c.finish.result c.new-sink.ensures lines c.finish.ensures
