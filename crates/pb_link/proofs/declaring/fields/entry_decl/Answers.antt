use Rattle.std.proofs.Common.{◌≡◌, map, true, sym, ◌∙◌, rules, subst}
use Rattle.std.specs.Prelude.{string_bytes, IsUtf8}
use Rattle.std.proofs.lemmas.Str.{IsUtf8-from_ascii}
use Rattle.pb_schema.specs.Names.{entry_name}
use Rattle.pb_declarations.specs.View.{enum_view, message_view}
use Rattle.pb_declarations.specs.Decls.{message, messages_of}
use Rattle.pb_declarations.proofs.ViewLemmas.{message_view-roll}
use Rattle.pb_link.proofs.declaring.fields.entry_decl.Goals as goal

pub returns : goal.returns
returns c =
    let entry : c.as_slice.result.now ≡ entry_name c.args.name.now = search rules in
    let named : string_bytes c.in_ok-name.name ≡ entry_name c.args.name.now = c.in_ok-name.ensures.ok (subst IsUtf8 (sym entry) (IsUtf8-from_ascii (entry_name c.args.name.now) c.requires.name)) ∙ entry in
    message_view-roll c.in_ok-name.name c.in_ok-fields.fields c.new.result c.new-2.result c.new-3.result c.new-4.result c.new-5.result true
    ∙ (λ i. message (record {
      name = named i;
      fields = c.in_ok-fields.ensures i;
      enums = map enum_view (c.new-2.ensures.items i);
      oneofs = map string_bytes (c.new-3.ensures.items i);
      reserved = c.new-4.ensures.items i;
      reserved_names = map string_bytes (c.new-5.ensures.items i);
      is_entry = true;
    }) (messages_of (map message_view (c.new.ensures.items i))))
