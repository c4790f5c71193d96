use Rattle.pb_source_tokens.proofs.OneOrFault.{one_lexing}
use Rattle.pb_source_tokens.proofs.laws.one_lexing.Goals as goal

pub returns : goal.returns
returns c = record { one = one_lexing }
