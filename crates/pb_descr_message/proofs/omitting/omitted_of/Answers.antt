use Rattle.std.proofs.Common.{map}
use Rattle.pb_value.specs.View.{value_view}
use Rattle.pb_descr_message.specs.Omitted.{omitted_view, parts_from}
use Rattle.pb_descr_message.proofs.OmittedLemmas.{file_more}
use Rattle.pb_descr_message.proofs.omitting.omitted_of.Goals as goal

pub loop-index-preserved : goal.loop-index-preserved
loop-index-preserved c =
    file_more value_view c.args.files.now c.loop-index.index c.index-files-index.result (parts_from 0 (map value_view c.args.files.now)) (map omitted_view c.loop-index.omitted.items) (map omitted_view c.add_file.new.omitted.items)
    c.loop-index-test.true c.index-files-index.is c.loop-index.invariant c.in_ok-add_file.ensures
