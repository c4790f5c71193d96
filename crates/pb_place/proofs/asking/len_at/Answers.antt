use Rattle.std.proofs.Common.{◌≡◌, Some, option_map, option_and_then, arith, sym, ap, ◌∙◌, vec_len}
use Rattle.pb_value.specs.View.{values_view}
use Rattle.pb_place.specs.Ask.{length_in, datums_count}
use Rattle.pb_place.specs.Found.{found_view}
use Rattle.pb_place.proofs.Counts.{datums_count-values, entries_count-entries}
use Rattle.pb_place.proofs.asking.len_at.Goals as goal

pub returns-in-List : goal.returns-in-List
returns-in-List c =
    let v = c.in-List.values.now in
    let counted : vec_len v ≡ datums_count (values_view v.items) = let size = v.ok in let all = datums_count-values v.items in omega (arith, size, all) in
    ap Some (c.len.ensures ∙ counted)
    ∙ ap (λ r. option_and_then length_in (option_map found_view r)) (sym (c.in_ok-values.was ∙ ap Some c.in-List.is)) ∙ ap (option_and_then length_in) c.at.ensures

pub returns-in-Map : goal.returns-in-Map
returns-in-Map c =
    ap Some (c.len-in-Map.ensures.len ∙ sym (entries_count-entries c.in-Map.entries.now.entries))
    ∙ ap (λ r. option_and_then length_in (option_map found_view r)) (sym (c.in_ok-values.was ∙ ap Some c.in-Map.is)) ∙ ap (option_and_then length_in) c.at.ensures
