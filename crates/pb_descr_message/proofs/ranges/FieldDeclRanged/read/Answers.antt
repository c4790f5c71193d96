use Rattle.std.proofs.Common.{rules}
use Rattle.pb_descr_message.specs.Ranges.{IsInt32}
use Rattle.pb_descr_message.proofs.RangeLemmas.{field_read}
use Rattle.pb_descr_message.proofs.ranges.FieldDeclRanged.read.Goals as goal

pub returns : goal.returns
returns c =
    let number : IsInt32 c.args.self.now.number = search rules in
    field_read c.args.self.now number c.read_optional.ensures
