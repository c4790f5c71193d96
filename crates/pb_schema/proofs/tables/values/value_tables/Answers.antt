use Rattle.std.proofs.Common.{List, String, Global, ℤ, map, string_bytes, subst, arith}
use Rattle.pb_schema.specs.View.{enum_view}
use Rattle.pb_schema.specs.Tables.{IsValueTable}
use Rattle.pb_schema.proofs.TableLemmas.{tables-more}
use Rattle.pb_schema.proofs.tables.values.value_tables.Goals as goal

pub loop-entry-preserved : goal.loop-entry-preserved
loop-entry-preserved c =
    rw c.in_ok-push.ensures.items (tables-more enum_view (λ e v. IsValueTable e.values v) c.args.enums.now c.loop-entry.entry-index c.entry-item.result c.loop-entry.tables.items c.in_ok-table.table (omega arith) c.entry-item.is c.loop-entry.invariant (subst (λ (l : List (String Global × ℤ)). IsValueTable (map (λ v. (string_bytes v.0, v.1)) l) c.in_ok-table.table) c.deref.ensures.value c.in_ok-table.ensures.table))
