use Rattle.pb_json_round_trip.proofs.EnumLaws.{value_read}
use Rattle.pb_json_round_trip.proofs.written_values.Goals as goal

pub returns : goal.returns
returns c = value_read
