use Rattle.pb_json_round_trip.proofs.ScalarLaws.{scalar_read}
use Rattle.pb_json_round_trip.proofs.written_scalars.Goals as goal

pub returns : goal.returns
returns c = scalar_read
