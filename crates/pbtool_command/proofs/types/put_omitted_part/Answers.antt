use Rattle.pb_output.proofs.SinkLemmas.{puts_then}
use Rattle.pbtool_command.proofs.types.put_omitted_part.Goals as goal

pub returns : goal.returns
returns g c =
    let file = rw c.file_name.ensures at c.put-2.ensures in
    let name = rw (c.as_bytes.ensures.value, c.as_str.ensures.value) at c.put-4.ensures in
    let what = rw (c.as_bytes-2.ensures.value, c.name.ensures) at c.put-6.ensures in
    puts_then (puts_then (puts_then (puts_then (puts_then (puts_then c.put.ensures file) c.put-3.ensures) name) c.put-5.ensures) what) c.put-7.ensures
