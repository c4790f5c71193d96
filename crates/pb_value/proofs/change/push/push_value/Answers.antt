use Rattle.pb_value.specs.Data.{Message}
use Rattle.pb_value.specs.View.{body_view, value_view}
use Rattle.pb_value.specs.WellFormed.{IsWellFormed}
use Rattle.pb_value.proofs.ChangeLemmas.{either_way}
use Rattle.pb_value.proofs.PartLemmas.{IsWellFormed-push}
use Rattle.pb_value.proofs.change.push.push_value.Goals as goal

pub returns-clause-well_formed : goal.returns-clause-well_formed
returns-clause-well_formed c =
    let pool = c.args.pool.now in
    let m = c.args.message_type.0 in
    either_way c.push_element.result (λ (v : Message). IsWellFormed pool m v) _ _ _ c.push_element.ensures.ok c.push_element.ensures.err
    (IsWellFormed-push pool m c.args.number (value_view c.args.value) (body_view c.args.message.now) c.in_ok-check_element.ensures.fits c.requires.well_formed)
    c.requires.well_formed
