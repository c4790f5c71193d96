use Rattle.std.proofs.Common.{ℕ, List, ap}
use Rattle.pb_schema.specs.Scalar.{text}
use Rattle.pb_value.specs.Data.{scalar, no_datums, datum, joined_datums}
use Rattle.pb_value.specs.View.{values_view}
use Rattle.pb_value.proofs.PartViews.{values_view-push}
use Rattle.pb_value.proofs.Views.{value_view-Text}
use Rattle.pb_json_read.proofs.forms.push_text.Goals as goal

pub returns : goal.returns
returns c =
    rw (c.in_ok-push.ensures.items, values_view-push, value_view-Text)
    (ap (λ (t : List ℕ). joined_datums (values_view c.args.values.now.items) (datum (scalar (text t)) no_datums)) c.in_ok-from_str.ensures.ok)
