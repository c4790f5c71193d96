use Rattle.pb_json_round_trip.proofs.FloatLaws.{float_read}
use Rattle.pb_json_round_trip.proofs.written_floats.Goals as goal

pub returns : goal.returns
returns c = float_read
