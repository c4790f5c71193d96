use Rattle.pb_value.specs.Data.{Message}
use Rattle.pb_value.specs.View.{body_view, key_view, value_view}
use Rattle.pb_value.specs.WellFormed.{IsWellFormed}
use Rattle.pb_value.proofs.ChangeLemmas.{either_way}
use Rattle.pb_value.proofs.PartLemmas.{IsWellFormed-insert, FitsKeys-entry}
use Rattle.pb_value.proofs.change.insert.insert_value.Goals as goal

pub insert_entry-requires : goal.insert_entry-requires
insert_entry-requires c =
    FitsKeys-entry c.args.pool.now c.args.message_type.0 c.args.number (key_view c.args.key) (value_view c.args.value) (body_view c.args.message.now)
    c.in_ok-check_entry.ensures.fits c.requires.well_formed

pub returns-clause-well_formed : goal.returns-clause-well_formed
returns-clause-well_formed c =
    let pool = c.args.pool.now in
    let m = c.args.message_type.0 in
    either_way c.insert_entry.result (λ (v : Message). IsWellFormed pool m v) _ _ _ c.insert_entry.ensures.ok c.insert_entry.ensures.err
    (IsWellFormed-insert pool m c.args.number (key_view c.args.key) (value_view c.args.value) (body_view c.args.message.now) c.in_ok-check_entry.ensures.fits c.requires.well_formed)
    c.requires.well_formed
