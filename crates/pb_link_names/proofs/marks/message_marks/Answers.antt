use Rattle.std.proofs.Common.{ℤ, List, ◌&&◌, ◌∙◌, sym, ap, subst}
use Rattle.std.specs.List.{list_all}
use Rattle.pb_declarations.specs.View.{message_view}
use Rattle.pb_link_names.specs.Declarations.{head_of}
use Rattle.pb_link_names.specs.Reserved.{Reserves}
use Rattle.pb_link_names.specs.MarkRules.{is_message_range, message_ranges_overlap, none_overlap}
use Rattle.pb_link_names.proofs.MarkLemmas.{message_marked}
use Rattle.pb_link_names.proofs.ViewLemmas.{reserved_of-view}
use Rattle.pb_link_names.proofs.marks.message_marks.Goals as goal

pub returns : goal.returns
returns c =
    let m = c.args.message.now in
    let names = (head_of (message_view m)).reserved_names in
    let ranges = c.deref.ensures.value ∙ reserved_of-view m in
    let has = subst (λ (l : List (ℤ × ℤ)). Reserves l names c.args.reserved.now) (sym ranges) c.requires in
    message_marked (message_view m) c.message_ranges_are_right.result (c.message_ranges_are_right.ensures names has ∙ ap (λ l. list_all is_message_range l && none_overlap message_ranges_overlap l) ranges)
