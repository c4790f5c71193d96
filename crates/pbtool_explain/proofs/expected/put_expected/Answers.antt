use Rattle.pb_output.proofs.SinkLemmas.{puts_then}
use Rattle.pbtool_explain.proofs.expected.put_expected.Goals as goal

pub returns : goal.returns
returns g c =
    let said = rw (c.as_bytes.ensures.value, c.expected.ensures) at c.put-2.ensures in
    puts_then (puts_then c.put.ensures said) c.put-3.ensures
