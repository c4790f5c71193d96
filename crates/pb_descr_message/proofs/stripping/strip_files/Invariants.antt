use Rattle.std.proofs.Common.{map}
use Rattle.pb_value.specs.View.{value_view}
use Rattle.pb_descr_message.specs.Without.{file_without}
use Rattle.pb_descr_message.proofs.WithoutLemmas.{Changed}
use Rattle.pb_descr_message.proofs.stripping.strip_files.Given as goal

abbrev pub invariant-loop-file : goal.invariant-loop-file
invariant-loop-file l = Changed value_view file_without l.file-index (map value_view l.initial.files) l.files
