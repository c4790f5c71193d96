-- A record that opens a message opens it, going on from what its slot holds, and another one an unknown group.
use Rattle.std.proofs.Common.{ap, ◌∙◌, subst}
use Rattle.pb_wire.specs.Unknown.{records_of}
use Rattle.pb_value.specs.View.{body_view}
use Rattle.pb_decode_parts.specs.Open.PartView.{part_view, scope_view}
use Rattle.pb_decode_parts.specs.Open.Targets.{Means, part_context}
use Rattle.pb_decode_parts.proofs.GroupSteps.{unknown_group_means, no_message, group_opened}
use Rattle.pb_decode_parts.proofs.OpenSteps.{message_group_opened}
use Rattle.pb_decode_parts.proofs.open.opening.open_group.Goals as goal

pub returns-in-Message : goal.returns-in-Message
returns-in-Message c =
    λ pool m depth levels base p0 q u parents ok can means s some has.
    rw (c.open_part.ensures.parent, c.open_part.ensures.part, c.open_part.ensures.scope)
    (message_group_opened c.args.number c.in-Message.kind c.in-Message.slot (scope_view c.new_scope-inner.result) (part_view c.take_message.new.outer) (body_view c.take_message.result) ok can
    (subst (Means pool (part_context (part_view c.args.part.now)) c.args.number 3) c.in-Message.is means) s some has
    c.take_message.ensures.left c.take_message.ensures.taken (c.new_scope-inner.ensures.depth_left ∙ c.saturating_sub.ensures) c.new_scope-inner.ensures.end c.new_scope-inner.ensures.none)

pub returns-in_default : goal.returns-in_default
returns-in_default c =
    λ pool m depth levels base p0 q u parents ok can means s some has.
    rw (c.open_part-in_default.ensures.parent, c.open_part-in_default.ensures.part, c.open_part-in_default.ensures.scope)
    (group_opened c.args.number (scope_view c.new_scope-inner.result) (records_of c.new.result.items) ok can
    (unknown_group_means pool (part_view c.args.part.now) c.args.number c.args.meant can means (no_message c.args.meant c.in_default.not-Message)) s some has (ap records_of c.new.ensures.items)
    (c.new_scope-inner.ensures.depth_left ∙ c.saturating_sub.ensures) c.new_scope-inner.ensures.end c.new_scope-inner.ensures.none)
