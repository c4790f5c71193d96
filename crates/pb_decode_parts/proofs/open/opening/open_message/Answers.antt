-- What the slot holds is taken out, and the message that goes on from it is open.
use Rattle.std.proofs.Common.{refl, ap, ◌∙◌, Some}
use Rattle.pb_decode_parts.specs.Open.PartView.{part_view, scope_view}
use Rattle.pb_value.specs.View.{body_view}
use Rattle.pb_decode_parts.proofs.OpenSteps.{message_opened}
use Rattle.pb_decode_parts.proofs.open.opening.open_message.Goals as goal

pub returns : goal.returns
returns c =
    λ pool m depth levels n base p0 u t parents ok can begun l at.
    rw (c.open_part.ensures.parent, c.open_part.ensures.part, c.open_part.ensures.scope)
    (message_opened c.args.number c.args.message_type c.args.slot n (scope_view c.new_scope-inner.result) (part_view c.take_message.new.outer) (body_view c.take_message.result) ok can begun refl l
    c.take_message.ensures.left c.take_message.ensures.taken (c.new_scope-inner.ensures.depth_left ∙ c.depth_left_in.ensures) (c.new_scope-inner.ensures.end ∙ ap Some at) c.new_scope-inner.ensures.none)
