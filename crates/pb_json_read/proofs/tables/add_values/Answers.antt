use Rattle.std.proofs.Common.{List, ℕ, ℤ, subst}
use Rattle.pb_schema.specs.EnumValues.{enum_values}
use Rattle.pb_json_read.specs.NameTables.{IsValueTable}
use Rattle.pb_json_read.proofs.NameTableLemmas.{tables_put}
use Rattle.pb_json_read.proofs.tables.add_values.Goals as goal

pub returns : goal.returns
returns c =
    let e = c.args.id.0 in
    let table = subst (λ (vs : List (List ℕ × ℤ)). IsValueTable vs c.in_ok-table.table) c.values_of.ensures c.in_ok-table.ensures in
    tables_put (λ i t. IsValueTable (enum_values c.args.pool.now i) t) c.args.tables.now c.insert.new.self e c.in_ok-table.table table
    c.in_ok-insert.ensures.updates.0
