-- By what the last step is.
use Rattle.std.proofs.Common.{[], ◌∷◌, ◌++◌, sym, ap, ◌∙◌}
use Rattle.std.specs.Prelude.{is_some}
use Rattle.pb_place.specs.Changed.{index_place}
use Rattle.pb_place.proofs.Ends.{ends_at_index, ends_at_no_index}
use Rattle.pb_c_message.proofs.changing.ends_at_index.Goals as goal

pub returns-in-Index : goal.returns-in-Index
returns-in-Index c =
    let parent = c.in-Some.field-0-1.now in
    sym (ap (λ p. is_some (index_place p)) (c.in-Some.ensures.cases.0 ∙ ap (λ x. parent ++ x ∷ []) c.in-Index.is)
    ∙ ap is_some (ends_at_index parent c.in-Index.field-0))

pub returns-in_default-step : goal.returns-in_default-step
returns-in_default-step c =
    let parent = c.in-Some.field-0-1.now in
    sym (ap (λ p. is_some (index_place p)) c.in-Some.ensures.cases.0
    ∙ ap is_some (ends_at_no_index parent c.in-Some.step.now c.in_default-step.not-Index))
