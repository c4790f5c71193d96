use Rattle.std.proofs.Common.{◌≡◌, ◌+◌, ◌*◌, ◌<◌, suc, get_or, List, Option, Some, None, map, arith, rules, ap, sym, ◌∙◌, nat_cmp}
use Rattle.std.proofs.lemmas.List.{with_items_is}
use Rattle.std.specs.Map.{lookup}
use Rattle.std.specs.Option.{option_copied_mut}
use Rattle.std.specs.BTreeMap.{is_at}
use Rattle.pb_wire.specs.Unknown.{records_of}
use Rattle.pb_value.specs.declared.body.Body.{out-Body}
use Rattle.pb_value.specs.declared.body.Value.{Value, the_lemmas as value_lemmas}
use Rattle.pb_value.specs.declared.body.Content.{the_lemmas}
use Rattle.pb_value.specs.Data.{Fields, Holding, list, body, message, put_some, levels_of, datums_depth, holding_depth, message_depth}
use Rattle.pb_value.specs.View.{value_view, values_view, fields_view, content_view, body_view}
use Rattle.pb_value.proofs.Views.{body_view-roll, body_view-out, content_view-List}
use Rattle.pb_descr_message.specs.Without.{message_without, messages_without, holding_without}
use Rattle.pb_descr_message.proofs.WithoutLemmas.{one_changed, all_changed, messages_changed, inner_held, content_changed, content_missing, element_depth, content_depth}
use Rattle.pb_descr_message.proofs.stripping.+strip.Goals as goal

pub strip_message_list-returns-in-List : goal.strip_message_list-returns-in-List
strip_message_list-returns-in-List t c =
    let given = c.deref_mut.ensures.value ∙ ap (λ v. v.items) c.in-List.messages-is in
    let kept = with_items_is c.in-List.messages c.strip_messages.new.messages (search rules) in
    let changed : values_view c.strip_messages.new.messages ≡ messages_without c.args.proto2 (values_view c.in-List.messages.items) =
    messages_changed c.args.proto2 c.in-List.messages.items c.strip_messages.new.messages (c.strip_messages.ensures ∙ ap (λ (vs : List Value). map (message_without c.args.proto2) (map value_view vs)) given) in
    search (rules, the_lemmas, content_view-List, c.in-List.is, c.in-List.messages-is, kept, changed)

pub strip_messages-loop-message-preserved : goal.strip_messages-loop-message-preserved
strip_messages-loop-message-preserved t c =
    one_changed value_view (message_without c.args.proto2) c.loop-message.messages (map value_view c.args.messages.now) c.loop-message.message-index _ c.strip_message.new.message (omega arith) c.loop-message.invariant (search rules) c.strip_message.ensures

pub strip_messages-returns : goal.strip_messages-returns
strip_messages-returns t c = all_changed value_view (message_without c.args.proto2) c.loop-message.messages (map value_view c.args.messages.now) c.loop-message.message-index (omega arith) c.loop-message.invariant

pub strip_messages_in-returns-in-Some : goal.strip_messages_in-returns-in-Some
strip_messages_in-returns-in-Some t c =
    let fs = (out-Body c.args.message.now).fields.entries in
    let us = records_of (out-Body c.args.message.now).unknown.items in
    let f = holding_without c.args.proto2 in
    let written = (c.get_mut.follows.holds c.strip_message_list.new.content).0 in
    let found : lookup (is_at (nat_cmp c.args.number)) fs ≡ Some c.in-Some.content.now = sym c.get_mut.ensures.value ∙ ap option_copied_mut c.in-Some.is in
    rw (body_view-roll, body_view-out, written) (ap (λ (gs : Fields). body gs us)
    (content_changed f c.args.number c.in-Some.content.now c.strip_message_list.new.content fs c.get_mut.ensures.ordered found c.strip_message_list.ensures
    ∙ ap (λ (o : Option Holding). put_some c.args.number o (fields_view fs)) (sym (inner_held c.args.proto2 c.args.number (fields_view fs)))))

pub strip_messages_in-returns-in_default : goal.strip_messages_in-returns-in_default
strip_messages_in-returns-in_default t c =
    let fs = (out-Body c.args.message.now).fields.entries in
    let us = records_of (out-Body c.args.message.now).unknown.items in
    let f = holding_without c.args.proto2 in
    let gone : lookup (is_at (nat_cmp c.args.number)) fs ≡ None = sym c.get_mut.ensures.value ∙ ap option_copied_mut c.in_default.is in
    rw (body_view-roll, body_view-out, c.get_mut.follows.holds-at-none) (ap (λ (gs : Fields). body gs us)
    (content_missing f c.args.number fs gone ∙ ap (λ (o : Option Holding). put_some c.args.number o (fields_view fs)) (sym (inner_held c.args.proto2 c.args.number (fields_view fs)))))

pub strip_messages-strip_message-requires : goal.strip_messages-strip_message-requires
strip_messages-strip_message-requires t c =
    let i = c.loop-message.message-index in
    let element = element_depth (message_without c.args.proto2) c.loop-message.messages (map value_view c.args.messages.now) i c.message-item.result (search (rules, arith)) c.loop-message.invariant in
    let deep : 4 * levels_of (value_view (get_or c.loop-message.messages i c.message-item.result)) < 4 * datums_depth (values_view c.args.messages.now) + 1 = omega (arith, element) in
    (search (rules, deep), tt)

pub strip_message-strip_messages_in-requires : goal.strip_message-strip_messages_in-requires
strip_message-strip_messages_in-requires t c =
    let seen : value_view c.args.message.now ≡ message (body_view c.in-Message.body) = search (rules, value_lemmas, c.in-Message.is) in
    let levels : levels_of (value_view c.args.message.now) ≡ suc (message_depth (body_view c.in-Message.body)) = ap levels_of seen in
    let deep : 4 * message_depth (body_view c.in-Message.body) + 3 < 4 * levels_of (value_view c.args.message.now) = omega (arith, levels) in
    (search (rules, deep, c.in-Message.body-is), tt)

pub strip_messages_in-strip_message_list-requires : goal.strip_messages_in-strip_message_list-requires
strip_messages_in-strip_message_list-requires t c =
    let fs = (out-Body c.args.message.now).fields.entries in
    let us = records_of (out-Body c.args.message.now).unknown.items in
    let found : lookup (is_at (nat_cmp c.args.number)) fs ≡ Some c.in-Some.content.now = sym c.get_mut.ensures.value ∙ ap option_copied_mut c.in-Some.is in
    let inside = content_depth c.args.number c.in-Some.content.now fs us found in
    let whole : message_depth (body_view c.args.message.now) ≡ message_depth (body (fields_view fs) us) = ap message_depth (body_view-out c.args.message.now) in
    let deep : 4 * holding_depth (content_view c.in-Some.content.now) + 2 < 4 * message_depth (body_view c.args.message.now) + 3 = omega (arith, inside, whole) in
    (search (rules, deep), tt)

pub strip_message_list-strip_messages-requires : goal.strip_message_list-strip_messages-requires
strip_message_list-strip_messages-requires t c =
    let given = c.deref_mut.ensures.value ∙ ap (λ v. v.items) c.in-List.messages-is in
    let seen : content_view c.args.content.now ≡ list (values_view c.in-List.messages.items) = search (rules, the_lemmas, content_view-List, c.in-List.is) in
    let whole : holding_depth (content_view c.args.content.now) ≡ datums_depth (values_view c.in-List.messages.items) = ap holding_depth seen in
    let inside : datums_depth (values_view c.deref_mut.result.now) ≡ datums_depth (values_view c.in-List.messages.items) = ap (λ (vs : List Value). datums_depth (values_view vs)) given in
    let deep : 4 * datums_depth (values_view c.deref_mut.result.now) + 1 < 4 * holding_depth (content_view c.args.content.now) + 2 = omega (arith, whole, inside) in
    (search (rules, deep), tt)
