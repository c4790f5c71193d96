use Rattle.pb_json_round_trip.proofs.BytesLaws.{standard_no_pad_read, standard_read, url_safe_no_pad_read, url_safe_read}
use Rattle.pb_json_round_trip.proofs.written_bytes.Goals as goal

pub returns : goal.returns
returns c = record {
  standard = standard_read;
  standard_no_pad = standard_no_pad_read;
  url_safe = url_safe_read;
  url_safe_no_pad = url_safe_no_pad_read;
}
