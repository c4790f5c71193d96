use Rattle.std.proofs.Common.{rules, map, length, ◌++◌, ap, sym, ◌∙◌}
use Rattle.std.proofs.lemmas.List.{length-map}
use Rattle.pb_declarations.specs.Decls.{messages_of}
use Rattle.pb_declarations.specs.View.{message_view, enum_view}
use Rattle.pb_link_names.specs.Declarations.{message_declared}
use Rattle.pb_link_names.specs.View.{declaration_view}
use Rattle.pb_link_names.proofs.RowLemmas.{messages_grown, message_added}
use Rattle.pb_link_names.proofs.ViewLemmas.{name_of-view, inner_of-view, enums_of-view}
use Rattle.pb_link_names.proofs.declared.+add_message.Goals as goal

pub add_message-returns : goal.add_message-returns
add_message-returns t c =
    let m = c.args.message.now in
    let own = map declaration_view c.add_head.new.row.items in
    let nested = map declaration_view c.add_messages.new.row.items in
    let name = c.as_str-2.result.now in
    let is = c.inside-inside.ensures in
    message_added (message_view m) c.args.parent.file c.args.parent.index c.args.parent.scope.now name (length c.args.row.now.items) (map declaration_view c.args.row.now.items) own nested (map declaration_view c.add_enums.new.row.items)
    c.len.result (length c.add_head.new.row.items) (length c.add_messages.new.row.items) (messages_of (map message_view c.deref.result.now)) (map enum_view c.deref-2.result.now)
    (length-map c.args.row.now.items declaration_view) (search rules) (sym (length-map c.add_head.new.row.items declaration_view)) (sym (length-map c.add_messages.new.row.items declaration_view))
    (ap (λ x. messages_of (map message_view x)) c.deref.ensures.value ∙ inner_of-view m) (ap (map enum_view) c.deref-2.ensures.value ∙ enums_of-view m)
    (search (rules, name_of-view m)) (rw is.scope at c.in_ok-add_head.ensures)
    (rw (is.file, is.index, is.scope) at c.in_ok-add_messages.ensures) (rw (is.file, is.index, is.scope) at c.in_ok-add_enums.ensures)

pub add_messages-loop-message-preserved : goal.add_messages-loop-message-preserved
add_messages-loop-message-preserved t c =
    messages_grown message_view c.args.parent.file c.args.parent.index c.args.parent.scope.now (length c.args.row.now.items) c.args.messages.now c.loop-message.message-index c.message-item.result (map declaration_view c.args.row.now.items) (map declaration_view c.loop-message.row.items) (map declaration_view c.add_message.new.row.items) c.loop-message-test.true c.message-item.is (length-map c.args.row.now.items declaration_view) c.loop-message.invariant (c.in_ok-add_message.ensures ∙ ap (λ k. map declaration_view c.loop-message.row.items ++ message_declared c.args.parent.file c.args.parent.index c.args.parent.scope.now k (message_view c.message-item.result)) (sym (length-map c.loop-message.row.items declaration_view)))
