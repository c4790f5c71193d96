use Rattle.std.proofs.Common.{◌≡◌, ◌++◌, map, take}
use Rattle.pb_value.specs.View.{value_view}
use Rattle.pb_declarations.specs.View.{file_view}
use Rattle.pb_descr_message.specs.Reading.{file_in}
use Rattle.pb_descr.proofs.reading.add_files.Given as goal

abbrev pub invariant-loop-value : goal.invariant-loop-value
invariant-loop-value l = map file_view l.files.items ≡ map file_view l.initial.files.items ++ map file_in (map value_view (take l.value-index l.values))
