use Rattle.std.proofs.Common.{arith, refl, ◌∙◌}
use Rattle.pb_encode.proofs.SizeLemmas.{number_bits}
use Rattle.pb_encode.proofs.sizes.number_len.Goals as goal

pub returns-clause-len : goal.returns-clause-len
returns-clause-len c = c.from.ensures ∙ number_bits c.args.number _ _ (omega arith) c.max.ensures refl
