use Rattle.std.proofs.Common.{◌≡◌, ◌+◌, ◌*◌, ◌<◌, List, map, arith, rules, subst, sym}
use Rattle.pb_schema.specs.Names.{in_scope}
use Rattle.pb_value.specs.Data.{Datum, levels_of}
use Rattle.pb_value.specs.View.{value_view}
use Rattle.pb_descr_message.specs.Held.{fields_in, name_at}
use Rattle.pb_descr_message.proofs.HeldLemmas.{weight, weight_data, weight_element}
use Rattle.pb_json_names.specs.Names.{message_named}
use Rattle.pb_json_names.proofs.AddingLemmas.{adds_more, message_adds}
use Rattle.pb_json_names.proofs.set.+names.Goals as goal

pub add_message-add_messages-requires : goal.add_message-add_messages-requires
add_message-add_messages-requires t c =
    let deep : weight (map value_view c.values_at-2.result.now) < 2 * levels_of (value_view c.args.message.now) + 1 =
    subst (λ (ds : List Datum). weight ds < 2 * levels_of (value_view c.args.message.now) + 1) (sym c.values_at-2.ensures) (weight_data 3 (value_view c.args.message.now)) in
    (search (rules, deep), tt)

pub add_messages-add_message-requires : goal.add_messages-add_message-requires
add_messages-add_message-requires t c =
    let element = weight_element value_view c.args.messages.now c.loop-message.message-index c.message-item.result (omega arith) c.message-item.is in
    let deep : 2 * levels_of (value_view c.message-item.result) + 1 < weight (map value_view c.args.messages.now) = omega arith in
    (search (rules, deep), tt)

pub add_messages-loop-message-preserved : goal.add_messages-loop-message-preserved
add_messages-loop-message-preserved t c =
    adds_more value_view (message_named c.args.pool.now c.args.scope.now) c.args.messages.now c.loop-message.message-index c.message-item.result
    c.args.names.now c.loop-message.names c.add_message.new.names c.loop-message-test.true c.message-item.is c.loop-message.invariant c.in_ok-add_message.ensures

pub add_message-returns : goal.add_message-returns
add_message-returns t c =
    let first : c.as_str.result.now ≡ in_scope c.args.scope.now (name_at 1 (fields_in (value_view c.args.message.now))) = search rules in
    let second : c.as_str-2.result.now ≡ in_scope c.args.scope.now (name_at 1 (fields_in (value_view c.args.message.now))) = search rules in
    message_adds c.args.pool.now c.args.scope.now (value_view c.args.message.now) c.as_str.result.now c.as_str-2.result.now
    (map value_view c.values_at.result.now) (map value_view c.values_at-2.result.now) c.args.names.now c.add_fields.new.names c.add_messages.new.names
    first second c.values_at.ensures c.values_at-2.ensures c.in_ok-add_fields.ensures c.in_ok-add_messages.ensures
