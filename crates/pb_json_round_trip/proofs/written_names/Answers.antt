use Rattle.pb_json_round_trip.proofs.NameLaws.{camel_read, declared_beside, declared_read, given_read}
use Rattle.pb_json_round_trip.proofs.written_names.Goals as goal

pub returns : goal.returns
returns c = record { declared = declared_read; declared_beside_given = λ pool given is_pool apart. declared_beside pool is_pool given apart; lower_camel = camel_read; given = given_read }
