-- No records give the empty message.
use Rattle.pb_value.specs.View.{body_view}
use Rattle.pb_decode.specs.Reader.{state_view}
use Rattle.pb_decode.proofs.StartLemmas.{begun_empty}
use Rattle.pb_decode.proofs.reader.start.begin_empty.Goals as goal

pub returns-clause-took : goal.returns-clause-took
returns-clause-took c =
    begun_empty c.args.message_type.0 c.max_depth-depth_left.result c.args.limits.depth c.args.end (body_view c.empty_body.result) (state_view c.begin_at.result.reader) c.begin_at.result.held.items c.empty_body.ensures c.max_depth-depth_left.ensures.same c.requires c.begin_at.ensures.took
