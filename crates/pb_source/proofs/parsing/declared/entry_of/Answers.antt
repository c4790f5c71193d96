use Rattle.std.proofs.Common.{map, true, ◌∙◌, string_bytes}
use Rattle.pb_declarations.specs.Decls.{message, messages_of}
use Rattle.pb_declarations.specs.View.{enum_view, message_view}
use Rattle.pb_declarations.proofs.ViewLemmas.{message_view-roll}
use Rattle.pb_source.proofs.parsing.declared.entry_of.Goals as goal

pub returns : goal.returns
returns c = λ number packed.
    message_view-roll c.in_ok-name.name c.in_ok-fields.fields c.new.result c.new-2.result c.new-3.result c.new-4.result c.new-5.result true
    ∙ (λ i. message (record {
      name = c.in_ok-name.ensures i;
      fields = c.in_ok-fields.ensures i;
      enums = map enum_view (c.new-2.ensures.items i);
      oneofs = map string_bytes (c.new-3.ensures.items i);
      reserved = c.new-4.ensures.items i;
      reserved_names = map string_bytes (c.new-5.ensures.items i);
      is_entry = true;
    }) (messages_of (map message_view (c.new.ensures.items i))))
