use Rattle.std.proofs.Common.{[], ◌∷◌, ◌++◌, sym, ap, ◌∙◌}
use Rattle.pb_place.specs.Changed.{field_place}
use Rattle.pb_place.proofs.Ends.{ends_at_field, ends_elsewhere}
use Rattle.pb_place.proofs.changing.field_at_end.Goals as goal

pub returns-in-Field : goal.returns-in-Field
returns-in-Field c =
    let parent = c.in_ok-step.parent.now in
    sym (ap field_place (c.in_ok-step.ensures.cases.0 ∙ ap (λ x. parent ++ x ∷ []) c.in-Field.is) ∙ ends_at_field parent c.in-Field.number)

pub returns-in_default : goal.returns-in_default
returns-in_default c =
    let parent = c.in_ok-step.parent.now in
    sym (ap field_place c.in_ok-step.ensures.cases.0 ∙ ends_elsewhere parent c.in_ok-step.step.now c.in_default.not-Field)
