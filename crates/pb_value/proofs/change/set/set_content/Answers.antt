use Rattle.pb_value.specs.Data.{Message}
use Rattle.pb_value.specs.View.{body_view, content_view}
use Rattle.pb_value.specs.WellFormed.{IsWellFormed}
use Rattle.pb_value.proofs.ChangeLemmas.{either_way, IsWellFormed-set}
use Rattle.pb_value.proofs.change.set.set_content.Goals as goal

pub returns-in_ok-shape-in_default-clause-well_formed : goal.returns-in_ok-shape-in_default-clause-well_formed
returns-in_ok-shape-in_default-clause-well_formed c =
    let pool = c.args.pool.now in
    let m = c.args.message_type.0 in
    either_way c.store.result (λ (v : Message). IsWellFormed pool m v) _ _ _ c.store.ensures.ok c.store.ensures.err
    (IsWellFormed-set pool m c.args.number c.in_ok-shape-in_default.shape (content_view c.args.content) (body_view c.args.message.now) c.in_ok-shape-in_default.ensures.fits c.requires.well_formed)
    c.requires.well_formed
