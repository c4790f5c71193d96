use Rattle.std.proofs.Common.{◌&&◌, ◌∙◌, sym, ap}
use Rattle.pb_link_names.specs.MarkRules.{enum_ranges_overlap, none_overlap}
use Rattle.pb_link_names.proofs.ReservedLemmas.{enum_filled, enum_apart}
use Rattle.pb_link_names.proofs.marks.ranges.enum_ranges_are_right.Goals as goal

pub returns-then-are_enum_ranges : goal.returns-then-are_enum_ranges
returns-then-are_enum_ranges c = λ names has.
    let ranges = c.args.ranges.now in
    let right = sym c.are_enum_ranges.ensures ∙ c.if-are_enum_ranges.true in
    has.apart (enum_filled ranges ∙ right) ∙ enum_apart ranges ∙ ap (λ b. b && none_overlap enum_ranges_overlap ranges) (sym right)
