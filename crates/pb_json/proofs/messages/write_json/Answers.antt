use Rattle.std.proofs.lemmas.Result.{err_from_is_err_and}
use Rattle.pb_output.proofs.SinkLemmas.{finished}
use Rattle.pb_json.proofs.PrintLemmas.{refused_fails}
use Rattle.pb_json.proofs.messages.write_json.Goals as goal

pub returns-in-Ok-clause-written : goal.returns-in-Ok-clause-written
returns-in-Ok-clause-written g c =
    let p = c.in_ok-put_json.ensures.put in
    let done = finished c.new-sink.ensures p.puts c.finish.ensures in (p.bytes, p.is, rw c.in-Ok.is at done)

pub returns-in-Err-clause-failed : goal.returns-in-Err-clause-failed
returns-in-Err-clause-failed g c =
    let p = c.in_ok-put_json.ensures.put in
    let done = finished c.new-sink.ensures p.puts c.finish.ensures in (p.bytes, p.is, rw c.in-Err.is at done)

pub returns-in_err-put_json-clause-failed : goal.returns-in_err-put_json-clause-failed
returns-in_err-put_json-clause-failed g c =
    let p = err_from_is_err_and c.from_residual.result c.from_residual.ensures.1 in
    let h = c.in_err-put_json.ensures.failed in
    rw (p.1, p.2) (refused_fails g.O.Output.written g.O.Output.failures c.args.out.now c.put_json.new.out c.args.form c.args.message.now _ h.0 h.1)
