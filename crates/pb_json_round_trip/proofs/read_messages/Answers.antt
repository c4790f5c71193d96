use Rattle.pb_json_round_trip.proofs.HereLaws.{messages_read}
use Rattle.pb_json_round_trip.proofs.read_messages.Goals as goal

pub returns : goal.returns
returns c pool names table rules is_pool apt named levels m b is covered at j means =
    (messages_read pool names table rules is_pool apt named levels m b is covered at j means).0
