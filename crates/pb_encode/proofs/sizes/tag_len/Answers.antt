use Rattle.pb_encode.proofs.SizeLemmas.{tag_size}
use Rattle.pb_encode.proofs.sizes.tag_len.Goals as goal

pub returns-clause-len : goal.returns-clause-len
returns-clause-len c = λ w h. tag_size c.args.number _ _ w c.from.ensures c.number_len.ensures.len h
