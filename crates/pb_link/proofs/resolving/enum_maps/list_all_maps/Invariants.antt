use Rattle.std.proofs.Common.{map}
use Rattle.pb_declarations.specs.View.{file_view}
use Rattle.pb_link.specs.EnumMaps.{file_without_maps}
use Rattle.pb_link.proofs.EnumMapLemmas.{ChangedBelow}
use Rattle.pb_link.proofs.resolving.enum_maps.list_all_maps.Given as goal

abbrev pub invariant-loop-file : goal.invariant-loop-file
invariant-loop-file l = ChangedBelow file_view file_without_maps l.file-index (map file_view l.initial.files) l.files
