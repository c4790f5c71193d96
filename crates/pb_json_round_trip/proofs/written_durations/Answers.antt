use Rattle.pb_json_round_trip.proofs.TimeLaws.{span_read}
use Rattle.pb_json_round_trip.proofs.written_durations.Goals as goal

pub returns : goal.returns
returns c = span_read
