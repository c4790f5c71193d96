use Rattle.std.proofs.Common.{ap, ◌∙◌}
use Rattle.pb_json_scalars.specs.Clock.{timestamp}
use Rattle.pb_json_text.proofs.ViewLemmas.{form_view-String}
use Rattle.pb_json_read.proofs.forms.timestamp_meant.Goals as goal

pub returns-in-String : goal.returns-in-String
returns-in-String c = rw (c.in-String.is, form_view-String) (c.read_timestamp.ensures ∙ ap timestamp c.as_bytes.ensures.value)
