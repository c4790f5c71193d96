use Rattle.pb_stream.proofs.WritingLemmas.{frame_written}
use Rattle.pb_stream.proofs.laws.written_frame.Goals as goal

pub returns : goal.returns
returns c = λ pool rules. frame_written pool rules
