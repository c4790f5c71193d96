use Rattle.std.proofs.Common.{◌≡◌, length, arith, sym, ◌∙◌, vec_len}
use Rattle.pb_value.proofs.Views.{content_view-List}
use Rattle.pb_value.proofs.Elements.{empty_list, no_list}
use Rattle.pb_value.proofs.change.element.is_empty_list.Goals as goal

pub returns-in-List : goal.returns-in-List
returns-in-List c =
    let v = c.in-List.values in
    let size : vec_len v ≡ length v.items = let held = v.ok in omega (arith, held) in
    rw (c.in-List.is, content_view-List) (c.is_empty.ensures ∙ empty_list v.items (vec_len v) size)

pub returns-in_default : goal.returns-in_default
returns-in_default c = sym (no_list c.args.content.now c.in_default.not-List)
