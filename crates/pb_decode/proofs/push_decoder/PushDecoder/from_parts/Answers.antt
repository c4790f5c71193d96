use Rattle.std.proofs.Common.{subst, sym}
use Rattle.pb_decode.specs.Parts.{IsOfPool}
use Rattle.pb_decode.proofs.DecoderLemmas.{sound_parts}
use Rattle.pb_decode.proofs.push_decoder.PushDecoder.from_parts.Goals as goal

pub invariant_of-result : goal.invariant_of-result
invariant_of-result c =
    sound_parts c.args.pool.now c.parts.inside.message_type.0 c.parts.inside.limits c.parts.inside.reading c.messages-types.ensures.rules
    (subst (IsOfPool c.args.pool.now) (sym c.parts.view_is) c.requires)
