use Rattle.std.proofs.Common.{List, ℕ, Some, ap}
use Rattle.pb_output.proofs.SinkLemmas.{finished}
use Rattle.pb_json.proofs.PrintLemmas.{written_whole}
use Rattle.pb_json.proofs.messages.json_in_memory.Goals as goal

pub returns-in-Ok : goal.returns-in-Ok
returns-in-Ok c =
    let p = c.in_ok-put_message.ensures.put in
    let done = finished c.new-sink.ensures p.puts c.finish.ensures in
    let sent = rw c.in-Ok.is at done in
    let whole = written_whole c.new-text.result.bytes.items c.finish.new.out.bytes.items p.bytes c.new-text.ensures.written sent.1 in
    (p.bytes, ap (λ (l : List ℕ). Some l) whole, p.is)
