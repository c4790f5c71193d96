-- A kind without a default is that of a message, or a closed enum.
use Rattle.std.proofs.Common.{sym, ap, ◌∙◌, option_map}
use Rattle.pb_value.specs.Data.{message}
use Rattle.pb_value.specs.View.{value_view}
use Rattle.pb_value.proofs.Views.{value_view-Message}
use Rattle.pb_decode_parts.proofs.ClosingLemmas.{missing_none}
use Rattle.pb_decode_parts.proofs.close.value_or_missing.Goals as goal

pub returns-in_default : goal.returns-in_default
returns-in_default c =
    rw c.in-None.is
    (value_view-Message c.empty_body.result ∙ ap message c.empty_body.ensures ∙ sym (missing_none c.args.kind (sym c.default_value.ensures ∙ ap (option_map value_view) c.in-None-default_value.is) c.in_default.not-ClosedEnum))
