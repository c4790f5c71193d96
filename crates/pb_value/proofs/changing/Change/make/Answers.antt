use Rattle.std.proofs.Common.{sym, subst}
use Rattle.pb_value.specs.View.{body_view, key_view}
use Rattle.pb_value.specs.WellFormed.{IsWellFormed}
use Rattle.pb_value.proofs.ChangeLemmas.{IsWellFormed-drop_field}
use Rattle.pb_value.proofs.Edits.{bare_stays}
use Rattle.pb_value.proofs.Elements.{taken_stays}
use Rattle.pb_value.proofs.Removed.{removed_stays}
use Rattle.pb_value.proofs.changing.Change.make.Goals as goal

pub returns-in-Clear-clause-well_formed : goal.returns-in-Clear-clause-well_formed
returns-in-Clear-clause-well_formed c =
    let pool = c.args.pool.now in
    let m = c.args.message_type.0 in
    subst (IsWellFormed pool m) (sym c.clear_field.ensures) (IsWellFormed-drop_field pool m c.in-Clear.number (body_view c.args.message.now) c.requires.well_formed)

pub returns-in-Remove-clause-well_formed : goal.returns-in-Remove-clause-well_formed
returns-in-Remove-clause-well_formed c =
    let pool = c.args.pool.now in
    let m = c.args.message_type.0 in
    subst (IsWellFormed pool m) (sym c.remove_entry.ensures.left) (removed_stays pool m c.in-Remove.number (key_view c.in-Remove.key) (body_view c.args.message.now) c.requires.well_formed)

pub returns-in-RemoveElement-clause-well_formed : goal.returns-in-RemoveElement-clause-well_formed
returns-in-RemoveElement-clause-well_formed c =
    let pool = c.args.pool.now in
    let m = c.args.message_type.0 in
    subst (IsWellFormed pool m) (sym c.remove_element.ensures.left)
    (taken_stays pool m c.in-RemoveElement.number c.in-RemoveElement.index (body_view c.args.message.now) c.requires.well_formed)

pub returns-in-DropUnknown-clause-well_formed : goal.returns-in-DropUnknown-clause-well_formed
returns-in-DropUnknown-clause-well_formed c =
    let pool = c.args.pool.now in
    let m = c.args.message_type.0 in
    subst (IsWellFormed pool m) (sym c.drop_unknown.ensures) (bare_stays pool m (body_view c.args.message.now) c.requires.well_formed)
