use Rattle.std.proofs.Common.{◌≡◌, rules, map, List, ap, ◌∙◌}
use Rattle.std.proofs.lemmas.List.{with_items_is}
use Rattle.pb_value.specs.View.{value_view, values_view}
use Rattle.pb_value.specs.declared.body.Value.{Value}
use Rattle.pb_value.specs.declared.body.Content.{the_lemmas}
use Rattle.pb_value.proofs.Views.{content_view-List}
use Rattle.pb_descr_message.specs.Without.{each, field_without}
use Rattle.pb_descr_message.proofs.WithoutLemmas.{list_changed}
use Rattle.pb_descr_message.proofs.stripping.strip_field_list.Goals as goal

pub returns-in-List : goal.returns-in-List
returns-in-List c =
    let given = c.deref_mut.ensures.value ∙ ap (λ v. v.items) c.in-List.fields-is in
    let kept = with_items_is c.in-List.fields c.strip_fields.new.fields (search rules) in
    let changed : values_view c.strip_fields.new.fields ≡ each field_without (values_view c.in-List.fields.items) =
    list_changed field_without c.in-List.fields.items c.strip_fields.new.fields (c.strip_fields.ensures ∙ ap (λ (vs : List Value). map field_without (map value_view vs)) given) in
    search (rules, the_lemmas, content_view-List, c.in-List.is, c.in-List.fields-is, kept, changed)
