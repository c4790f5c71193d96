-- What a number is for is looked up in a part that may be changed.
use Rattle.pb_decode_whole.proofs.Payloads.{open_can}
use Rattle.pb_decode_whole.proofs.reader.Reader.read_number.Goals as goal

pub target_of-target-requires : goal.target_of-target-requires
target_of-target-requires c = open_can c.requires.at_tag.can.rules c.requires.at_tag.can.is_open
