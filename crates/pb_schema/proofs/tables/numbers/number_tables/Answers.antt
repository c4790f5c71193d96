use Rattle.std.proofs.Common.{List, map, subst, arith}
use Rattle.pb_schema.specs.declared.tables.numbers.NumberTable.{NumberTable}
use Rattle.pb_schema.specs.declared.types.Field.{Field}
use Rattle.pb_schema.specs.Types.{MessageView}
use Rattle.pb_schema.specs.View.{field_view, message_view}
use Rattle.pb_schema.specs.Tables.{IsNumberTable}
use Rattle.pb_schema.proofs.TableLemmas.{tables-more}
use Rattle.pb_schema.proofs.tables.numbers.number_tables.Goals as goal

pub loop-message-preserved : goal.loop-message-preserved
loop-message-preserved c =
    rw c.in_ok-push.ensures.items (tables-more message_view (λ (t : MessageView) (n : NumberTable). IsNumberTable t.fields n.rising.items) c.args.messages.now c.loop-message.message-index c.message-item.result c.loop-message.tables.items c.in_ok-table.table (omega arith) c.message-item.is c.loop-message.invariant (subst (λ (l : List Field). IsNumberTable (map field_view l) c.in_ok-table.table.rising.items) c.deref.ensures.value c.in_ok-table.ensures.rising))
