use Rattle.pb_output.proofs.SinkLemmas.{puts_then}
use Rattle.pbtool_files.proofs.report.put_json.Goals as goal

pub returns : goal.returns
returns g c =
    let name = rw c.name.ensures at c.put_cause.ensures in
    puts_then (puts_then c.put.ensures c.put_fields.ensures) name
