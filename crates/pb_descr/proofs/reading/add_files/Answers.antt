use Rattle.std.proofs.Common.{map}
use Rattle.pb_value.specs.View.{value_view}
use Rattle.pb_declarations.specs.View.{file_view}
use Rattle.pb_descr_message.proofs.JoinedSets.{added_more}
use Rattle.pb_descr.proofs.reading.add_files.Goals as goal

pub loop-value-preserved : goal.loop-value-preserved
loop-value-preserved c =
    added_more file_view value_view c.args.values.now c.loop-value.value-index c.value-item.result (map file_view c.args.files.now.items) c.loop-value.files.items c.push.new.self.items c.in_ok-file.file c.loop-value-test.true c.value-item.is c.loop-value.invariant c.in_ok-file.ensures c.in_ok-push.ensures.items
