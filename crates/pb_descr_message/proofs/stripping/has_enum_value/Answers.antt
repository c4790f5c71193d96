use Rattle.std.proofs.Common.{ap, ◌∙◌}
use Rattle.std.specs.List.{list_any}
use Rattle.pb_value.specs.View.{value_view}
use Rattle.pb_descr_message.specs.Without.{is_enum_value}
use Rattle.pb_descr_message.proofs.WithoutLemmas.{any_shown}
use Rattle.pb_descr_message.proofs.stripping.has_enum_value.Goals as goal

pub returns : goal.returns
returns c = c.any_enum_value.ensures ∙ any_shown value_view is_enum_value c.values_at.result.now ∙ ap (list_any is_enum_value) c.values_at.ensures
