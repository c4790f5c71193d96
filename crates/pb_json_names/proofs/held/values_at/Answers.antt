use Rattle.std.proofs.Common.{map, List, Some, sym, ap, ◌∙◌}
use Rattle.pb_value.specs.Data.{Holding}
use Rattle.pb_value.specs.View.{value_view, content_view}
use Rattle.pb_value.specs.declared.body.Value.{Value}
use Rattle.pb_value.proofs.Views.{content_view-List}
use Rattle.pb_descr_message.specs.Held.{list_held}
use Rattle.pb_descr_message.proofs.HeldLemmas.{elements_of_view}
use Rattle.pb_json_names.proofs.held.values_at.Goals as goal

pub returns-in-Some-List : goal.returns-in-Some-List
returns-in-Some-List c =
    ap (λ (vs : List Value). map value_view vs) (c.as_slice.ensures.value ∙ ap (λ v. v.items) c.in-Some-List.values-is)
    ∙ elements_of_view c.in-Some-List.values.items
    ∙ ap (λ (h : Holding). list_held (Some h)) (sym (content_view-List c.in-Some-List.values) ∙ sym (ap content_view c.in-Some-List.field-0-is))
    ∙ ap list_held c.in-Some-List.ensures
