use Rattle.std.proofs.Common.{sym, subst}
use Rattle.pb_value.specs.View.{body_view, value_view}
use Rattle.pb_value.specs.WellFormed.{IsWellFormed}
use Rattle.pb_value.proofs.Elements.{replaced_stays}
use Rattle.pb_value.proofs.change.element.set_element.Goals as goal

pub returns-clause-well_formed : goal.returns-clause-well_formed
returns-clause-well_formed c =
    let pool = c.args.pool.now in
    let m = c.args.message_type.0 in
    subst (IsWellFormed pool m) (sym c.put_element.ensures.left)
    (replaced_stays pool m c.args.number c.args.index (value_view c.args.value) (body_view c.args.message.now) c.in_ok-check_element.ensures.fits c.requires.well_formed)
