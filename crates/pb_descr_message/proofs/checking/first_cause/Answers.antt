use Rattle.std.proofs.Common.{map}
use Rattle.pb_value.specs.View.{value_view}
use Rattle.pb_descr_message.specs.Causes.{causes_from}
use Rattle.pb_descr_message.proofs.JudgeLemmas.{file_stopped}
use Rattle.pb_descr_message.proofs.checking.first_cause.Goals as goal

pub returns-in-Err : goal.returns-in-Err
returns-in-Err c =
    file_stopped value_view c.args.files.now c.loop-index.index c.index-files-index.result c.in-Err.cause (causes_from 0 (map value_view c.args.files.now)) c.loop-index-test.true c.index-files-index.is c.loop-index.invariant c.in-Err.ensures
