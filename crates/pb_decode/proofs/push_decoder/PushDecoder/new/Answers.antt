use Rattle.std.proofs.Common.{[]}
use Rattle.pb_decode.proofs.DecoderLemmas.{after_by}
use Rattle.pb_decode.proofs.push_decoder.PushDecoder.new.Goals as goal

pub returns-clause-after : goal.returns-clause-after
returns-clause-after c = after_by c.args.pool.now c.args.message_type.0 c.args.limits [] c.start-reading.result c.start-reading.ensures.took
