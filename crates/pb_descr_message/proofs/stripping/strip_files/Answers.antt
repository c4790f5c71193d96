use Rattle.std.proofs.Common.{map, arith, rules}
use Rattle.pb_value.specs.View.{value_view}
use Rattle.pb_descr_message.specs.Without.{file_without}
use Rattle.pb_descr_message.proofs.WithoutLemmas.{one_changed, all_changed}
use Rattle.pb_descr_message.proofs.stripping.strip_files.Goals as goal

pub loop-file-preserved : goal.loop-file-preserved
loop-file-preserved c =
    one_changed value_view file_without c.loop-file.files (map value_view c.args.files.now) c.loop-file.file-index _ c.strip_file.new.file (omega arith) c.loop-file.invariant (search rules) c.strip_file.ensures

pub returns : goal.returns
returns c = all_changed value_view file_without c.loop-file.files (map value_view c.args.files.now) c.loop-file.file-index (omega arith) c.loop-file.invariant
