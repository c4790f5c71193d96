-- Where there were none, they are all there is.
use Rattle.std.proofs.Common.{◌≡◌, length, vec_len, arith}
use Rattle.pb_decode_parts.proofs.AnswerLemmas.{none_held}
use Rattle.pb_decode_parts.proofs.RunLemmas.{only_others}
use Rattle.pb_decode_parts.proofs.values.put_run.append.Goals as goal

pub returns-then-is_empty : goal.returns-then-is_empty
returns-then-is_empty c =
    let empty = none_held (vec_len c.args.records.now) c.if-is_empty.ensures in
    let none : length c.args.records.now.items ≡ 0 = omega (arith, empty) in
    only_others c.args.records.now.items c.args.more.items none
