use Rattle.pb_value.specs.View.{value_view}
use Rattle.pb_json_names.specs.Names.{file_named}
use Rattle.pb_json_names.proofs.AddingLemmas.{adds_more, file_adds}
use Rattle.std.proofs.Common.{map}
use Rattle.pb_json_names.proofs.set.add_files.Goals as goal

pub loop-file-preserved : goal.loop-file-preserved
loop-file-preserved c =
    adds_more value_view (file_named c.args.pool.now) c.args.files.now c.loop-file.file-index c.file-item.result c.args.names.now c.loop-file.names
    c.add_messages.new.names c.loop-file-test.true c.file-item.is c.loop-file.invariant
    (file_adds c.args.pool.now (value_view c.file-item.result) c.name_at.result.now (map value_view c.values_at.result.now) c.loop-file.names
    c.add_messages.new.names c.name_at.ensures c.values_at.ensures c.in_ok-add_messages.ensures)
