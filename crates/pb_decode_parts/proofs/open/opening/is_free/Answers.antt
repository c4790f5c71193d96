-- A field that the message does not have is free.
use Rattle.std.proofs.Common.{sym, ap, ◌∙◌}
use Rattle.pb_value.specs.View.{body_view}
use Rattle.pb_decode_parts.specs.Open.Parents.{message_part}
use Rattle.pb_decode_parts.specs.Open.Openings.{message_held}
use Rattle.pb_decode_parts.proofs.RunLemmas.{absent}
use Rattle.pb_decode_parts.proofs.AnswerLemmas.{not_yes}
use Rattle.pb_decode_parts.proofs.OpenMore.{without_absent}
use Rattle.pb_decode_parts.proofs.open.opening.is_free.Goals as goal

pub returns-in-Message-One : goal.returns-in-Message-One
returns-in-Message-One c = λ free.
    let none = absent c.in-Message-One.number c.in-Message-One.body (sym c.contains_key.ensures ∙ not_yes c.contains_key.result free) in
    rw (c.in-Message-One.is-0, c.in-Message-One.is-1) (ap message_held none, ap (message_part c.in-Message-One.field-0-0.0) (without_absent c.in-Message-One.number (body_view c.in-Message-One.body) none))
