use Rattle.std.proofs.Common.{◌↔◌, ◌-◌, map, drop}
use Rattle.pb_schema.specs.View.{message_view, enum_view}
use Rattle.pb_schema.specs.Rules.{EnumsStandInOrder}
use Rattle.pb_schema.proofs.rules.order.enums_stand_in_order.Given as goal

abbrev pub invariant-loop-next : goal.invariant-loop-next
invariant-loop-next l =
    EnumsStandInOrder (map message_view l.messages) (map enum_view l.enums) ↔ EnumsStandInOrder (map message_view l.messages) (map enum_view (drop (l.next - 1) l.enums))
