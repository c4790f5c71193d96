use Rattle.std.proofs.Common.{◌∙◌}
use Rattle.pb_decode_parts.proofs.PlaceLemmas.{slice_from}
use Rattle.pb_decode.proofs.push.rest_of.Goals as goal

pub returns : goal.returns
returns c = c.in_ok-rest.ensures.items ∙ slice_from c.args.from c.args.bytes.now
