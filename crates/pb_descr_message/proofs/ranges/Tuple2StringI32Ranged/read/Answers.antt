use Rattle.std.proofs.Common.{rules}
use Rattle.pb_descr_message.specs.Ranges.{IsInt32}
use Rattle.pb_descr_message.proofs.RangeLemmas.{value_read}
use Rattle.pb_descr_message.proofs.ranges.Tuple2StringI32Ranged.read.Goals as goal

pub returns : goal.returns
returns c =
    let number : IsInt32 c.args.self.now.1 = search rules in
    value_read c.args.self.now number
