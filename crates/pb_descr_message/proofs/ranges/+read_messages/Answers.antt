use Rattle.std.proofs.Common.{◌≡◌, ◌≤◌, ◌<◌, ◌-◌, suc, List, length, get_or, map, arith, subst}
use Rattle.std.specs.List.{AllByRecursion}
use Rattle.pb_declarations.specs.declared.decl.MessageDecl.{MessageDecl}
use Rattle.pb_declarations.specs.Nests.{nests}
use Rattle.pb_declarations.specs.View.{message_view}
use Rattle.pb_descr_message.specs.Ranges.{IsRangeInRange, IsMessageInRange}
use Rattle.pb_descr_message.proofs.RangeLemmas.{ReadFields, ReadEnums, message_read, go_on}
use Rattle.pb_descr_message.proofs.ranges.+read_messages.Goals as goal

pub read_message-returns : goal.read_message-returns
read_message-returns t c = λ within.
    message_read c.args.message.now (c.args.levels - 1) (subst ReadFields c.deref.ensures.value c.read_all.ensures) (subst ReadEnums c.deref-2.ensures.value c.read_all-2.ensures)
    (subst (AllByRecursion IsRangeInRange) c.deref-3.ensures.value c.read_all-3.ensures) c.read_messages.ensures (omega (arith, within))

pub read_messages-loop-message-preserved : goal.read_messages-loop-message-preserved
read_messages-loop-message-preserved t c =
    let same = c.deref-message-items.ensures.value in
    let less : c.loop-message.message-index < length c.args.messages.now.items = subst (λ (ms : List MessageDecl). c.loop-message.message-index < length ms) same c.loop-message-test.true in
    let is : c.message-item.result ≡ get_or c.args.messages.now.items c.loop-message.message-index c.message-item.result =
    subst (λ (ms : List MessageDecl). c.message-item.result ≡ get_or ms c.loop-message.message-index c.message-item.result) same c.message-item.is in
    go_on (λ m. nests m ≤ c.args.levels → IsMessageInRange m) message_view c.args.messages.now.items c.loop-message.message-index c.message-item.result less is
    c.loop-message.invariant c.read_message.ensures
