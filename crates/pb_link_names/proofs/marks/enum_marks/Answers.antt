use Rattle.std.proofs.Common.{ℤ, List, true, map, ◌&&◌, ◌∙◌, sym, ap, subst}
use Rattle.std.specs.List.{list_all}
use Rattle.pb_declarations.specs.View.{enum_view}
use Rattle.pb_link_names.specs.Reserved.{Reserves, with_end_behind}
use Rattle.pb_link_names.specs.MarkRules.{is_enum_range, enum_ranges_overlap, none_overlap}
use Rattle.pb_link_names.proofs.MarkLemmas.{mark_of}
use Rattle.pb_link_names.proofs.marks.enum_marks.Goals as goal

pub returns : goal.returns
returns c = λ j.
    let names = (enum_view c.args.entry.now).reserved_names in
    let ranges = c.deref.ensures.value in
    let has = subst (λ (l : List (ℤ × ℤ)). Reserves (map with_end_behind l) names c.args.reserved.now) (sym ranges) c.requires in
    mark_of true true true true ((c.enum_ranges_are_right.ensures names has ∙ ap (λ l. list_all is_enum_range l && none_overlap enum_ranges_overlap l) ranges) j)
