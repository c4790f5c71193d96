use Rattle.std.proofs.Common.{◌≡◌, map, string_bytes, arith, ap, sym, ◌∙◌}
use Rattle.pb_schema.specs.Names.{in_scope}
use Rattle.pb_declarations.specs.View.{field_view, message_view}
use Rattle.pb_declarations.specs.declared.decl.MessageDecl.{out-MessageDecl}
use Rattle.pb_source.specs.Meaning.{scoped_field, scoped}
use Rattle.pb_declarations.proofs.ViewLemmas.{message_view-parts}
use Rattle.pb_source.proofs.ScopeSteps.{mapped_all, same_messages, parts_set, parts_scoped}
use Rattle.pb_source.proofs.parsing.scopes.+scope.Goals as goal

pub scope_message-returns-clause-scoped : goal.scope_message-returns-clause-scoped
scope_message-returns-clause-scoped t c =
    let m = out-MessageDecl c.args.message.now in
    let s = string_bytes c.args.scope.now in
    let inner : string_bytes c.push_name.new.scope ≡ in_scope s (string_bytes m.name) = c.in_ok-push_name.ensures ∙ ap (in_scope s) c.as_str.ensures.value in
    let fields : map field_view c.scope_fields.new.fields.items ≡ map (scoped_field (in_scope s (string_bytes m.name))) (map field_view m.fields.items) =
    c.in_ok-scope_fields.ensures ∙ ap (λ x. map (scoped_field x) (map field_view m.fields.items)) (c.as_str-2.ensures.value ∙ inner) in
    let messages : map message_view c.scope_messages.new.messages.items ≡ map (scoped (in_scope s (string_bytes m.name))) (map message_view m.messages.items) =
    c.in_ok-scope_messages.ensures.scoped ∙ ap (λ ms. map (scoped (string_bytes c.push_name.new.scope)) (map message_view ms.items)) (same_messages c.args.message.now c.scope_fields.new.fields)
    ∙ ap (λ x. map (scoped x) (map message_view m.messages.items)) inner in
    parts_set c.args.message.now c.scope_fields.new.fields c.scope_messages.new.messages ∙ parts_scoped s m c.scope_fields.new.fields c.scope_messages.new.messages fields messages ∙ ap (scoped s) (sym (message_view-parts c.args.message.now))

pub scope_messages-returns-clause-scoped : goal.scope_messages-returns-clause-scoped
scope_messages-returns-clause-scoped t c =
    let i = c.loop-i.invariant in
    mapped_all message_view (scoped (string_bytes c.args.scope.now)) c.loop-i.messages.items c.loop-i.i (let l = i.unvisited.0 in omega arith) ∙ i.mapped
