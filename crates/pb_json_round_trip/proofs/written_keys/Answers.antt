use Rattle.pb_json_round_trip.proofs.ScalarLaws.{key_read}
use Rattle.pb_json_round_trip.proofs.written_keys.Goals as goal

pub returns : goal.returns
returns c = key_read
