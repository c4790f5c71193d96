use Rattle.pb_json_round_trip.proofs.TimeLaws.{instant_read}
use Rattle.pb_json_round_trip.proofs.written_timestamps.Goals as goal

pub returns : goal.returns
returns c = instant_read
