use Rattle.pb_json_round_trip.proofs.IntegerLaws.{key_is_integer, natural_key, signed_key}
use Rattle.pb_json_round_trip.proofs.written_integers.Goals as goal

pub returns : goal.returns
returns c = record { signed = signed_key; natural = natural_key; values = key_is_integer }
