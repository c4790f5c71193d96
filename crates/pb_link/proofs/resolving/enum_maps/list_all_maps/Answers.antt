use Rattle.std.proofs.Common.{map, arith}
use Rattle.pb_declarations.specs.View.{file_view}
use Rattle.pb_link.specs.EnumMaps.{file_without_maps}
use Rattle.pb_link.proofs.EnumMapLemmas.{one_changed, all_changed}
use Rattle.pb_link.proofs.resolving.enum_maps.list_all_maps.Goals as goal

pub loop-file-preserved : goal.loop-file-preserved
loop-file-preserved c =
    one_changed file_view file_without_maps c.loop-file.files (map file_view c.args.files.now) c.loop-file.file-index c.file-item.result c.list_maps_of.new.file (omega arith) c.loop-file.invariant c.list_maps_of.ensures

pub returns : goal.returns
returns c = all_changed file_view file_without_maps c.loop-file.files (map file_view c.args.files.now) c.loop-file.file-index (omega arith) c.loop-file.invariant
