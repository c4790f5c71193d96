use Rattle.std.proofs.Common.{◌<◌, List, map, length, sym, ap, ◌∙◌, arith}
use Rattle.std.specs.Prelude.{slice_get}
use Rattle.std.proofs.lemmas.List.{length-map}
use Rattle.pb_schema.specs.declared.types.MessageType.{MessageType}
use Rattle.pb_schema.specs.Types.{MessageView, fields_of_message}
use Rattle.pb_schema.specs.View.{field_view, message_view}
use Rattle.pb_schema.proofs.LookupLemmas.{get_viewed}
use Rattle.pb_json_read.proofs.names.fields_of.Goals as goal

pub returns-clause-listed : goal.returns-clause-listed
returns-clause-listed c =
    let ms = c.messages.result.now in
    let m = c.args.message.0 in
    let within : m < length ms = omega (arith, c.requires, ap (λ (vs : List MessageView). length vs) c.messages.ensures.listed, length-map ms message_view) in
    ap (map field_view) (c.deref.ensures.value ∙ ap (λ (t : MessageType). t.fields.items) (sym c.index-messages-message.is))
    ∙ ap fields_of_message (sym (get_viewed message_view ms m c.index-messages-message.result within c.index-messages-message.is))
    ∙ ap (λ (vs : List MessageView). fields_of_message (slice_get vs m)) c.messages.ensures.listed
