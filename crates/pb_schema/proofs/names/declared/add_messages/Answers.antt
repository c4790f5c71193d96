use Rattle.std.proofs.Common.{map, ap, ◌∙◌, subst, arith}
use Rattle.pb_schema.specs.View.{message_view, parent_view}
use Rattle.pb_schema.specs.Names.Declared.{scope_id, AddsMessage}
use Rattle.pb_schema.proofs.DeclareLemmas.{messages-none, messages-more, messages-all}
use Rattle.pb_schema.proofs.names.declared.add_messages.Goals as goal

pub loop-message-init : goal.loop-message-init
loop-message-init c files may = rw c.new-indexes.ensures.items (messages-none files (map message_view c.args.messages.now) c.args.declared.now may.tree)

pub loop-message-preserved : goal.loop-message-preserved
loop-message-preserved c files may =
    let x = c.message-item.result in
    let at = c.scope-around.ensures ∙ ap (λ l. scope_id c.args.packages.now l x.file (parent_view x.parent)) c.deref.ensures.value in
    let added = subst (λ s. AddsMessage s (message_view x) c.loop-message.declared c.add_message.new.self c.in_ok-index.index) at c.in_ok-index.ensures in
    rw c.in_ok-push.ensures.items (messages-more files c.args.messages.now c.args.packages.now c.loop-message.indexes.items c.loop-message.message-index c.in_ok-index.index c.message-item.result c.args.declared.now c.loop-message.declared _ may (omega arith) c.message-item.is (c.loop-message.invariant files may) added)

pub returns : goal.returns
returns c files may =
    messages-all files c.args.messages.now c.loop-message.indexes.items c.loop-message.message-index c.args.declared.now c.loop-message.declared (omega arith) (c.loop-message.invariant files may)
