use Rattle.std.proofs.Common.{arith}
use Rattle.pb_encode.proofs.SizeLemmas.{group_size}
use Rattle.pb_encode.proofs.sizes.group_len.Goals as goal

pub returns : goal.returns
returns c = λ rs h. group_size c.args.number _ _ c.saturating_add.result rs (c.tag_len.ensures.len 3 (omega arith)) (c.tag_len.ensures.len 4 (omega arith)) h c.saturating_add.ensures
