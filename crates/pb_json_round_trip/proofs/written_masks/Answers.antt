use Rattle.pb_json_round_trip.proofs.MaskLaws.{mask_read}
use Rattle.pb_json_round_trip.proofs.PathLaws.{only_path, path_read}
use Rattle.pb_json_round_trip.proofs.written_masks.Goals as goal

pub returns : goal.returns
returns c = record { masks = mask_read; one = path_read; only = only_path }
