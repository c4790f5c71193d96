use Rattle.std.proofs.Common.{List, Option, map, subst, arith}
use Rattle.pb_schema.specs.declared.types.Field.{Field}
use Rattle.pb_names.specs.NameSets.{NameSet}
use Rattle.pb_schema.specs.Types.{MessageView}
use Rattle.pb_schema.specs.View.{field_view, message_view}
use Rattle.pb_schema.specs.Tables.{IsNameTable}
use Rattle.pb_schema.proofs.TableLemmas.{tables-more}
use Rattle.pb_schema.proofs.tables.names.name_tables.Goals as goal

pub loop-message-preserved : goal.loop-message-preserved
loop-message-preserved c =
    rw c.in_ok-push.ensures.items (tables-more message_view (λ (t : MessageView) (n : Option NameSet). IsNameTable t.fields n) c.args.messages.now c.loop-message.message-index c.message-item.result c.loop-message.tables.items c.in_ok-table.table (omega arith) c.message-item.is c.loop-message.invariant (subst (λ (l : List Field). IsNameTable (map field_view l) c.in_ok-table.table) c.deref.ensures.value c.in_ok-table.ensures))
