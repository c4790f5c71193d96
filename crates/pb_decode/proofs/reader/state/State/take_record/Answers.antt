-- The tag is where the reader is.
use Rattle.pb_decode.proofs.WholeRecords.{at_tag}
use Rattle.pb_decode.proofs.reader.state.State.take_record.Goals as goal

pub take_length_record-requires-clause-at_tag : goal.take_length_record-requires-clause-at_tag
take_length_record-requires-clause-at_tag c =
    at_tag c.args.self.now c.args.bytes.now c.in-Some.tag c.left.result c.requires.can.rules c.requires.can.reading c.requires.step c.left.ensures c.in-Some.ensures.within.1 c.in-Some.ensures.whole

pub take_number_record-requires-clause-at_tag : goal.take_number_record-requires-clause-at_tag
take_number_record-requires-clause-at_tag c =
    at_tag c.args.self.now c.args.bytes.now c.in-Some.tag c.left.result c.requires.can.rules c.requires.can.reading c.requires.step c.left.ensures c.in-Some.ensures.within.1 c.in-Some.ensures.whole

pub take_group_tag-requires : goal.take_group_tag-requires
take_group_tag-requires c =
    record { at_tag = at_tag c.args.self.now c.args.bytes.now c.in-Some.tag c.left.result c.requires.can.rules c.requires.can.reading c.requires.step c.left.ensures c.in-Some.ensures.within.1 c.in-Some.ensures.whole }
