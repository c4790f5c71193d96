use Rattle.std.proofs.Common.{◌≡◌, map, length, ap, sym, ◌∙◌, arith, rules}
use Rattle.std.specs.Prelude.{string_bytes}
use Rattle.std.proofs.lemmas.List.{length-map}
use Rattle.pb_declarations.specs.Decls.{messages_of}
use Rattle.pb_declarations.specs.View.{field_view, enum_view, message_view}
use Rattle.pb_declarations.proofs.ViewLemmas.{message_view-roll}
use Rattle.pb_declarations.specs.declared.decl.MessageDecl.{out-MessageDecl}
use Rattle.pb_link_names.specs.Declarations.{head_of}
use Rattle.pb_link_names.specs.View.{declaration_view}
use Rattle.pb_link.specs.Resolving.{coming, fields_read, message_read, behind_message}
use Rattle.pb_link.proofs.ResolvingLemmas.{read_more, read_end, behind_more, behind_end, message_made, message_went, head_went}
use Rattle.pb_link_names.proofs.ViewLemmas.{inner_of-view, name_of-view, enums_of-view, fields_of-view, oneofs_of-view, reserved_of-view, reserved_names_of-view}
use Rattle.pb_declarations.proofs.ViewLemmas.{message_view-parts}
use Rattle.pb_link.proofs.resolving.messages.+resolve_message.Goals as goal

pub resolve_messages-loop-message-preserved : goal.resolve_messages-loop-message-preserved
resolve_messages-loop-message-preserved t c =
    let ds = map declaration_view c.args.row.now in
    record {
      read = read_more (message_read ds) behind_message message_view message_view c.args.messages.now c.loop-message.message-index c.message-item.result c.loop-message.resolved.items c.push.new.self.items c.in_ok-made.made (coming c.loop-message.names) (coming c.resolve_message.new.names) _ c.loop-message-test.true c.message-item.is c.in_ok-push.ensures.items (c.in_ok-made.ensures.made) c.in_ok-made.ensures.behind c.loop-message.invariant.read;
      behind = behind_more behind_message message_view c.args.messages.now c.loop-message.message-index c.message-item.result (coming c.loop-message.names) (coming c.resolve_message.new.names) _ c.loop-message-test.true c.message-item.is c.in_ok-made.ensures.behind c.loop-message.invariant.behind;
    }

pub resolve_messages-returns-clause-made : goal.resolve_messages-returns-clause-made
resolve_messages-returns-clause-made t c =
    let ds = map declaration_view c.args.row.now in
    read_end (message_read ds) behind_message message_view message_view c.args.messages.now c.loop-message.message-index c.loop-message.resolved.items (coming c.loop-message.names) _ c.loop-message-test.false c.loop-message.invariant.read

pub resolve_messages-returns-clause-behind : goal.resolve_messages-returns-clause-behind
resolve_messages-returns-clause-behind t c = behind_end behind_message message_view c.args.messages.now c.loop-message.message-index (coming c.loop-message.names) _ c.loop-message-test.false c.loop-message.invariant.behind

pub resolve_message-returns-clause-made : goal.resolve_message-returns-clause-made
resolve_message-returns-clause-made t c =
    let ds = map declaration_view c.args.row.now in
    let o = c.args.decl.now in
    let ns = coming c.args.names.now in
    let fields = ap (map field_view) c.deref.ensures.value ∙ fields_of-view o in
    let size : c.len.result ≡ length (head_of (message_view o)).oneofs = omega (arith, c.len.ensures, length-map (out-MessageDecl o).oneofs.items string_bytes, ap length (oneofs_of-view o), (out-MessageDecl o).oneofs.ok.0) in
    let named : string_bytes c.in_ok-name.name ≡ string_bytes (out-MessageDecl o).name = search rules in
    message_made ds ns (coming c.skip-2.new.self) (message_view o) _ _ (map message_view c.deref-2.result.now) (map message_view c.in_ok-messages.messages.items)
    (message_view-roll c.in_ok-name.name c.in_ok-fields.fields c.in_ok-messages.messages c.in_ok-enums.enums c.in_ok-oneofs.oneofs c.in_ok-reserved.reserved c.in_ok-reserved_names.reserved_names (out-MessageDecl o).map_entry)
    (λ k. record {
      name = (named ∙ name_of-view o) k;
      fields = (c.in_ok-fields.ensures.fields ∙ (λ j. fields_read ds (c.skip.ensures j) (fields j))) k;
      enums = (c.in_ok-enums.ensures ∙ ap (map enum_view) c.deref-4.ensures.value ∙ enums_of-view o) k;
      oneofs = (c.in_ok-oneofs.ensures ∙ ap (map string_bytes) c.deref-5.ensures.value ∙ oneofs_of-view o) k;
      reserved = (c.in_ok-reserved.ensures.items ∙ c.deref-6.ensures.value ∙ reserved_of-view o) k;
      reserved_names = (c.in_ok-reserved_names.ensures ∙ ap (map string_bytes) c.deref-7.ensures.value ∙ reserved_names_of-view o) k;
      is_entry = ap (λ m. (head_of m).is_entry) (sym (message_view-parts o)) k;
    })
    (head_went ns (coming c.skip.new.self) (coming c.resolve_fields.new.names) (coming c.skip-2.new.self) (head_of (message_view o)) (map field_view c.deref.result.now) c.len.result c.skip.ensures fields c.in_ok-fields.ensures.behind size c.skip-2.ensures)
    (ap (λ l. messages_of (map message_view l)) c.deref-2.ensures.value ∙ inner_of-view o)
    c.in_ok-messages.ensures.made

pub resolve_message-returns-clause-behind : goal.resolve_message-returns-clause-behind
resolve_message-returns-clause-behind t c =
    let o = c.args.decl.now in
    let ns = coming c.args.names.now in
    let fields = ap (map field_view) c.deref.ensures.value ∙ fields_of-view o in
    let size : c.len.result ≡ length (head_of (message_view o)).oneofs = omega (arith, c.len.ensures, length-map (out-MessageDecl o).oneofs.items string_bytes, ap length (oneofs_of-view o), (out-MessageDecl o).oneofs.ok.0) in
    message_went ns (coming c.skip-2.new.self) (coming c.resolve_messages.new.names) (coming c.skip_enums.new.names) (message_view o) (map message_view c.deref-2.result.now) (map enum_view c.deref-3.result.now)
    (head_went ns (coming c.skip.new.self) (coming c.resolve_fields.new.names) (coming c.skip-2.new.self) (head_of (message_view o)) (map field_view c.deref.result.now) c.len.result c.skip.ensures fields c.in_ok-fields.ensures.behind size c.skip-2.ensures)
    (ap (λ l. messages_of (map message_view l)) c.deref-2.ensures.value ∙ inner_of-view o)
    c.in_ok-messages.ensures.behind
    (ap (map enum_view) c.deref-3.ensures.value ∙ enums_of-view o)
    c.skip_enums.ensures
