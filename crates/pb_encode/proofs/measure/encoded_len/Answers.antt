use Rattle.pb_value.proofs.RoundTrip.{canonical_text, only_text}
use Rattle.pb_encode.proofs.measure.encoded_len.Goals as goal

pub returns-clause-text : goal.returns-clause-text
returns-clause-text c = λ pool rules m v. canonical_text pool m v rules

pub returns-clause-only : goal.returns-clause-only
returns-clause-only c = λ pool rules m v w. only_text pool m v w rules
