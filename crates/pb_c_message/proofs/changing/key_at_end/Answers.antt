use Rattle.std.proofs.Common.{[], ◌∷◌, ◌++◌, sym, ap, ◌∙◌}
use Rattle.pb_c_message.specs.Ends.{entry_place}
use Rattle.pb_c_message.specs.Steps.{steps_held}
use Rattle.pb_c_message.proofs.Entries.{ends_at_key, ends_elsewhere}
use Rattle.pb_c_message.proofs.changing.key_at_end.Goals as goal

pub returns-in-Key : goal.returns-in-Key
returns-in-Key c =
    let parent = steps_held c.in_ok-parent.parent in
    sym (ap entry_place (c.in_ok-parent.ensures.last ∙ ap (λ x. parent ++ x ∷ []) c.in-Key.is) ∙ ends_at_key parent c.in-Key.key)

pub returns-in_default : goal.returns-in_default
returns-in_default c =
    let parent = steps_held c.in_ok-parent.parent in
    sym (ap entry_place c.in_ok-parent.ensures.last ∙ ends_elsewhere parent c.in_ok-parent.last c.in_default.not-Key)
