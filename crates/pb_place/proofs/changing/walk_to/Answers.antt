use Rattle.pb_value.specs.View.{body_view}
use Rattle.pb_value.specs.Edit.{edit_of}
use Rattle.pb_place.proofs.Whole.{well_after, of_whole}
use Rattle.pb_place.proofs.changing.walk_to.Goals as goal

pub from_well_formed-requires-clause-well_formed : goal.from_well_formed-requires-clause-well_formed
from_well_formed-requires-clause-well_formed c =
    let pool = c.pool-pool.result.now in
    let m = c.message_type-message_type.result.0 in
    let old = body_view c.into_well_formed-body.result in
    let good = of_whole c.args.message.now c.replace-whole.result pool m old c.replace-whole.ensures.value c.pool-pool.ensures c.message_type-message_type.ensures.named c.into_well_formed-body.ensures.well_formed in
    well_after pool c.args.most m c.args.place.now (edit_of c.args.pending.now.change) old (body_view c.change_in-answer.new.body) c.change_in-answer.result c.change_in-answer.new.pending.taken c.requires good c.change_in-answer.ensures
