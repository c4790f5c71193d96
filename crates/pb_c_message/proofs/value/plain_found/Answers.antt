use Rattle.std.proofs.Common.{◌≡◌, arith, sym, ap, ◌∙◌, vec_len}
use Rattle.pb_value.specs.View.{values_view}
use Rattle.pb_place.specs.Ask.{datums_count}
use Rattle.pb_place.specs.Found.{found_view}
use Rattle.pb_place.proofs.Counts.{datums_count-values, entries_count-entries}
use Rattle.pb_c_message.specs.Plain.{plain, seen_plain}
use Rattle.pb_c_message.proofs.value.plain_found.Goals as goal

pub returns-in-List : goal.returns-in-List
returns-in-List c =
    let v = c.in-List.values.now in
    let counted : vec_len v ≡ datums_count (values_view v.items) = let size = v.ok in let all = datums_count-values v.items in omega (arith, size, all) in
    ap (plain 19) (c.len.ensures ∙ counted) ∙ sym (ap (λ f. seen_plain (found_view f)) c.in-List.is)

pub returns-in-Map : goal.returns-in-Map
returns-in-Map c =
    ap (plain 20) (c.len-in-Map.ensures.len ∙ sym (entries_count-entries c.in-Map.entries.now.entries)) ∙ sym (ap (λ f. seen_plain (found_view f)) c.in-Map.is)
