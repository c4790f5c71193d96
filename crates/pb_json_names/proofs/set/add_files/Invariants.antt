use Rattle.std.proofs.Common.{flat_map, map, take}
use Rattle.pb_value.specs.View.{value_view}
use Rattle.pb_json_names.specs.Adding.{Adds}
use Rattle.pb_json_names.specs.Names.{file_named}
use Rattle.pb_json_names.proofs.set.add_files.Given as goal

abbrev pub invariant-loop-file : goal.invariant-loop-file
invariant-loop-file l = Adds (flat_map (file_named l.pool) (map value_view (take l.file-index l.files))) l.initial.names l.names
