use Rattle.pb_output.proofs.SinkLemmas.{puts_then}
use Rattle.pbtool_files.proofs.report.put_frame_fault.Goals as goal

pub returns : goal.returns
returns g c = puts_then c.put_frame_index.ensures c.put_fault.ensures
