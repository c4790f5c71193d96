use Rattle.std.proofs.Common.{◌≡◌, map, sym, ap, ◌∙◌}
use Rattle.pb_value.specs.Data.{fields_of}
use Rattle.pb_value.specs.View.{value_view, body_view}
use Rattle.pb_value.proofs.Views.{value_view-Message}
use Rattle.pb_descr_message.specs.Held.{fields_in, data_at}
use Rattle.pb_descr_message.specs.Causes.{causes_from}
use Rattle.pb_descr_message.proofs.ReadLemmas.{nothing_first}
use Rattle.pb_descr.proofs.reading.declared_files.Goals as goal

pub returns-clause-silent : goal.returns-clause-silent
returns-clause-silent c =
    let files : map value_view c.values_at-files.result.now ≡ data_at 1 (fields_of (body_view c.args.set)) = c.values_at-files.ensures ∙ ap (λ d. data_at 1 (fields_in d)) (value_view-Message c.args.set) in
    ap (causes_from 0) (sym files) ∙ nothing_first (causes_from 0 (map value_view c.values_at-files.result.now)) (sym c.first_cause.ensures ∙ c.in_default.is)
