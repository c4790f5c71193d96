use Rattle.pb_json_round_trip.proofs.MessageTexts.{message_text_read}
use Rattle.pb_json_round_trip.proofs.written_messages.Goals as goal

pub returns : goal.returns
returns c pool form = message_text_read pool form.names form.layout
