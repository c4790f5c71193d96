-- An entry with no key and no value is open.
use Rattle.std.proofs.Common.{refl, ap, ◌∙◌, Some}
use Rattle.pb_decode_parts.specs.Open.PartView.{scope_view}
use Rattle.pb_decode_parts.proofs.OpenSteps.{entry_opened}
use Rattle.pb_decode_parts.proofs.open.opening.open_entry.Goals as goal

pub returns : goal.returns
returns c =
    λ pool m depth levels n base p0 u t parents ok can begun l at.
    rw (c.open_part.ensures.parent, c.open_part.ensures.part, c.open_part.ensures.scope)
    (entry_opened c.args.number c.args.key_kind c.args.value_kind n (scope_view c.new_scope-inner.result) ok can begun refl l
    (c.new_scope-inner.ensures.depth_left ∙ c.saturating_sub.ensures) (c.new_scope-inner.ensures.end ∙ ap Some at) c.new_scope-inner.ensures.none)
