use Rattle.std.proofs.Common.{◌&&◌, ◌∙◌, sym, ap}
use Rattle.pb_link_names.specs.MarkRules.{message_ranges_overlap, none_overlap}
use Rattle.pb_link_names.proofs.ReservedLemmas.{message_filled}
use Rattle.pb_link_names.proofs.marks.ranges.message_ranges_are_right.Goals as goal

pub returns-then-are_message_ranges : goal.returns-then-are_message_ranges
returns-then-are_message_ranges c = λ names has.
    let right = sym c.are_message_ranges.ensures ∙ c.if-are_message_ranges.true in
    has.apart (message_filled c.args.ranges.now right) ∙ ap (λ b. b && none_overlap message_ranges_overlap c.args.ranges.now) (sym right)
