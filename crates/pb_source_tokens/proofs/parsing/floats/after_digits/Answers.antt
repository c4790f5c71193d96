use Rattle.pb_source_tokens.proofs.FloatLaws.{rest_digits}
use Rattle.pb_source_tokens.proofs.parsing.floats.after_digits.Goals as goal

pub returns : goal.returns
returns c = rest_digits c.digits_len.result c.args.bytes.now c.digits_len.ensures.within c.digits_len.ensures.passes c.digits_len.ensures.stops
