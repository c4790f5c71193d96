use Rattle.std.proofs.Common.{◌+◌, ◌*◌, ◌<◌, List, map, arith, rules, subst, sym}
use Rattle.pb_value.specs.Data.{Datum, levels_of}
use Rattle.pb_value.specs.View.{value_view}
use Rattle.pb_descr_message.proofs.HeldLemmas.{weight, weight_data, weight_element}
use Rattle.pb_descr_message.proofs.declaring.+declare.Goals as goal

pub message_decl-message_decls-requires : goal.message_decl-message_decls-requires
message_decl-message_decls-requires t c =
    let deep : weight (map value_view c.values_at.result.now) < 2 * levels_of (value_view c.args.message.now) + 1 =
    subst (λ (ds : List Datum). weight ds < 2 * levels_of (value_view c.args.message.now) + 1) (sym c.values_at.ensures) (weight_data 3 (value_view c.args.message.now)) in
    (search (rules, deep), tt)

pub message_decls-message_decl-requires : goal.message_decls-message_decl-requires
message_decls-message_decl-requires t c =
    let element = weight_element value_view c.args.messages.now c.loop-message.message-index c.message-item.result (omega arith) c.message-item.is in
    let deep : 2 * levels_of (value_view c.message-item.result) + 1 < weight (map value_view c.args.messages.now) = omega arith in
    (search (rules, deep), tt)
