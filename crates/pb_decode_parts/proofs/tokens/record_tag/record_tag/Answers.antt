-- The number at the start is the tag's.
use Rattle.pb_decode_parts.proofs.NumberTokens.{number_size}
use Rattle.pb_decode_parts.proofs.tokens.record_tag.record_tag.Goals as goal

pub returns-clause-within : goal.returns-clause-within
returns-clause-within c = let there = c.in-Whole.ensures 0 in (number_size there.1, there.0)

pub returns-clause-whole : goal.returns-clause-whole
returns-clause-whole c = λ at. let there = c.in-Whole.ensures at in c.in-Ok.ensures.whole _ _ there.1
