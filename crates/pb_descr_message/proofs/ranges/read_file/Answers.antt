use Rattle.std.proofs.Common.{subst}
use Rattle.std.specs.List.{AllByRecursion}
use Rattle.pb_descr_message.specs.Ranges.{IsInt32}
use Rattle.pb_descr_message.proofs.RangeLemmas.{ReadEnums, file_read}
use Rattle.pb_descr_message.proofs.ranges.read_file.Goals as goal

pub returns : goal.returns
returns c =
    file_read c.args.file.now (subst (AllByRecursion IsInt32) c.deref.ensures.value c.read_all.ensures) (subst ReadEnums c.deref-2.ensures.value c.read_all-2.ensures)
    c.read_messages.ensures
