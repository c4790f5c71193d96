use Rattle.std.proofs.Common.{inl, inr}
use Rattle.pb_output.proofs.SinkLemmas.{finished}
use Rattle.pbtool_cli.proofs.explaining.write_bytes.Goals as goal

pub returns-in-Ok : goal.returns-in-Ok
returns-in-Ok g c = inl (finished c.new-sink.ensures c.put.ensures c.in-Ok.ensures)

pub returns-in-Err : goal.returns-in-Err
returns-in-Err g c = inr (finished c.new-sink.ensures c.put.ensures c.in-Err.ensures)
