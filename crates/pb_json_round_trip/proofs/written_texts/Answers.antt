use Rattle.pb_json_round_trip.proofs.TextLaws.{text_read}
use Rattle.pb_json_round_trip.proofs.written_texts.Goals as goal

pub returns : goal.returns
returns c layout j text = text_read layout j text
