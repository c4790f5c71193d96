use Rattle.std.proofs.Common.{map, ap, ◌∙◌, arith, rules}
use Rattle.std.specs.Vec.{with_items}
use Rattle.std.proofs.lemmas.List.{with_items_is}
use Rattle.pb_declarations.specs.View.{message_view}
use Rattle.pb_declarations.specs.declared.decl.MessageDecl.{out-MessageDecl}
use Rattle.pb_link.specs.EnumMaps.{message_without_maps}
use Rattle.pb_link.proofs.EnumMapLemmas.{one_changed, all_changed, with_mark, same_messages, message_changed}
use Rattle.pb_link.proofs.resolving.enum_maps.+list_maps.Goals as goal

pub list_maps-loop-message-preserved : goal.list_maps-loop-message-preserved
list_maps-loop-message-preserved t c = record {
  unvisited = search rules;
  changed = one_changed message_view message_without_maps c.loop-message.messages (map message_view c.args.messages.now) c.loop-message.message-index c.message-item.result c.list_maps_in.new.message (omega arith) c.loop-message.invariant.changed c.list_maps_in.ensures;
}

pub list_maps-returns : goal.list_maps-returns
list_maps-returns t c = all_changed message_view message_without_maps c.loop-message.messages (map message_view c.args.messages.now) c.loop-message.message-index (omega arith) c.loop-message.invariant.changed

pub list_maps_in-returns : goal.list_maps_in-returns
list_maps_in-returns t c =
    let m = c.args.message.now in
    let mark = c.is_map-message.result in
    let before = (out-MessageDecl (with_mark m mark)).messages in
    let kept = with_items_is before c.list_maps.new.messages (search rules) in
    message_changed m mark (with_items before c.list_maps.new.messages) c.is_map-message.ensures
    (ap (map message_view) kept ∙ c.list_maps.ensures ∙ ap (λ ms. map message_without_maps (map message_view ms)) (c.deref_mut.ensures.value ∙ ap (λ ms. ms.items) (same_messages m mark)))
