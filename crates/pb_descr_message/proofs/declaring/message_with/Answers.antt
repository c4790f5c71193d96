use Rattle.std.proofs.Common.{map, false, sym, ap, ◌∙◌}
use Rattle.std.specs.Prelude.{filter_map, unwrap_or}
use Rattle.std.proofs.lemmas.List.{map-id}
use Rattle.pb_value.specs.View.{value_view}
use Rattle.pb_declarations.specs.Decls.{message, messages_of}
use Rattle.pb_descr_message.specs.Held.{text_in}
use Rattle.pb_descr_message.specs.Reading.{field_in, enum_in, oneof_in, range_in}
use Rattle.pb_declarations.proofs.ViewLemmas.{message_view-roll}
use Rattle.pb_descr_message.proofs.HeldLemmas.{message_in-fields}
use Rattle.pb_descr_message.proofs.declaring.message_with.Goals as goal

pub returns : goal.returns
returns c =
    message_view-roll c.in_ok-name.name c.in_ok-fields.fields c.args.messages c.in_ok-enums.enums c.in_ok-oneofs.oneofs c.in_ok-reserved.reserved c.in_ok-reserved_names.reserved_names c.unwrap_or.result
    ∙ (λ i. message (record {
      name = (c.in_ok-name.ensures.ok ∙ c.name_at.ensures) i;
      fields = (c.in_ok-fields.ensures ∙ ap (map field_in) c.values_at.ensures) i;
      enums = (c.in_ok-enums.ensures ∙ ap (map enum_in) c.values_at-2.ensures) i;
      oneofs = (c.in_ok-oneofs.ensures ∙ ap (map oneof_in) c.values_at-3.ensures) i;
      reserved = (sym (map-id c.in_ok-reserved.reserved.items) ∙ c.in_ok-reserved.ensures ∙ ap (map range_in) c.values_at-4.ensures) i;
      reserved_names = (c.in_ok-reserved_names.ensures ∙ ap (filter_map text_in) c.values_at-5.ensures) i;
      is_entry = (c.unwrap_or.ensures ∙ ap (λ o. unwrap_or o false) c.bool_inside.ensures) i;
    }) (messages_of (c.requires i)))
    ∙ sym (message_in-fields (value_view c.args.message.now))
