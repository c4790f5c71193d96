use Rattle.std.proofs.Common.{map, sym, ap, ◌∙◌}
use Rattle.std.specs.Prelude.{filter_map}
use Rattle.pb_value.specs.View.{value_view}
use Rattle.pb_declarations.specs.Decls.{messages_of}
use Rattle.pb_descr_message.specs.Held.{fields_in, text_in, int_in}
use Rattle.pb_descr_message.specs.Reading.{message_in, enum_in, service_in}
use Rattle.pb_descr_message.proofs.HeldLemmas.{messages_at-data}
use Rattle.pb_descr_message.proofs.declaring.FileDeclDeclared.declared.Goals as goal

pub returns : goal.returns
returns c = λ i. record {
  name = (c.in_ok-name.ensures.ok ∙ c.name_at.ensures) i;
  package_name = (c.in_ok-package.ensures.ok ∙ c.name_at-2.ensures) i;
  imports = (c.in_ok-imports.ensures ∙ ap (filter_map text_in) c.values_at.ensures) i;
  public_indexes = (c.in_ok-public.ensures ∙ ap (filter_map int_in) c.values_at-2.ensures) i;
  messages = (ap messages_of (c.in_ok-messages.ensures ∙ ap (map message_in) c.values_at-3.ensures) ∙ sym (messages_at-data 4 (fields_in (value_view c.args.value.now)))) i;
  enums = (c.in_ok-enums.ensures ∙ ap (map enum_in) c.values_at-4.ensures) i;
  services = (c.in_ok-services.ensures ∙ ap (map service_in) c.values_at-5.ensures) i;
  is_proto2 = c.is_proto2.ensures i;
}
