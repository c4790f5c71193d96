use Rattle.pbtool_files.proofs.SourceLines.{source-parts}
use Rattle.pb_output.proofs.SinkLemmas.{puts_then}
use Rattle.pbtool_files.proofs.report.put_source.Goals as goal

pub returns : goal.returns
returns g c =
    let file = rw c.as_bytes.ensures.value at c.put-2.ensures in
    let name = rw c.name.ensures at c.put_cause.ensures in
    rw (source-parts c.args.file.now c.args.byte c.args.cause)
    (puts_then (puts_then (puts_then c.put.ensures file) c.put_at.ensures) name)
