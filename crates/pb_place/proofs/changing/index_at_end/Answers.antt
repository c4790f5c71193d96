use Rattle.std.proofs.Common.{[], ◌∷◌, ◌++◌, sym, ap, ◌∙◌}
use Rattle.pb_place.specs.Changed.{index_place}
use Rattle.pb_place.proofs.Ends.{ends_at_index, ends_at_no_index}
use Rattle.pb_place.proofs.changing.index_at_end.Goals as goal

pub returns-in-Index : goal.returns-in-Index
returns-in-Index c =
    let parent = c.in_ok-step.list.now in
    sym (ap index_place (c.in_ok-step.ensures.cases.0 ∙ ap (λ x. parent ++ x ∷ []) c.in-Index.is) ∙ ends_at_index parent c.in-Index.index)

pub returns-in_default : goal.returns-in_default
returns-in_default c =
    let parent = c.in_ok-step.list.now in
    sym (ap index_place c.in_ok-step.ensures.cases.0 ∙ ends_at_no_index parent c.in_ok-step.step.now c.in_default.not-Index)
