use Rattle.pb_decode.proofs.DecodeLemmas.{exactly_value, same_value}
use Rattle.pb_decode.proofs.laws.one_answer.Goals as goal

pub returns-clause-exactly : goal.returns-clause-exactly
returns-clause-exactly c = exactly_value

pub returns-clause-value : goal.returns-clause-value
returns-clause-value c = λ pool m limits b v w t u. same_value v w t u
