use Rattle.std.proofs.Common.{Some, sym, ap, ◌∙◌}
use Rattle.pb_value.specs.Data.{scalar}
use Rattle.pb_place.specs.At.{single}
use Rattle.pb_find.specs.View.{scalar_view}
use Rattle.pb_c_message.specs.Answers.{bytes_in}
use Rattle.pb_c_message.proofs.finding.bytes_held.Goals as goal

pub returns-in-Text : goal.returns-in-Text
returns-in-Text c = λ keys. (
  Some (single (scalar (scalar_view c.in_ok-text.field-0))),
  c.in_ok-text.ensures keys,
  ap (λ x. bytes_in (single (scalar (scalar_view x)))) c.in-Text.is ∙ ap (λ x. Some x) (sym c.as_bytes.ensures.value),
)

pub returns-in-Bytes : goal.returns-in-Bytes
returns-in-Bytes c = λ keys. (
  Some (single (scalar (scalar_view c.in_ok-text.field-0))),
  c.in_ok-text.ensures keys,
  ap (λ x. bytes_in (single (scalar (scalar_view x)))) c.in-Bytes.is,
)
