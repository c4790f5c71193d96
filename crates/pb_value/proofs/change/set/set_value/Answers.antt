use Rattle.pb_value.specs.Data.{Message, one}
use Rattle.pb_value.specs.View.{body_view, value_view}
use Rattle.pb_value.specs.WellFormed.{IsWellFormed}
use Rattle.pb_value.proofs.ChangeLemmas.{either_way, IsWellFormed-set}
use Rattle.pb_value.proofs.change.set.set_value.Goals as goal

pub returns-clause-well_formed : goal.returns-clause-well_formed
returns-clause-well_formed c =
    let pool = c.args.pool.now in
    let m = c.args.message_type.0 in
    either_way c.store_one.result (λ (v : Message). IsWellFormed pool m v) _ _ _ c.store_one.ensures.ok c.store_one.ensures.err
    (IsWellFormed-set pool m c.args.number c.in_ok-shape.shape (one (value_view c.args.value)) (body_view c.args.message.now) c.in_ok-shape.ensures.fits c.requires.well_formed)
    c.requires.well_formed
