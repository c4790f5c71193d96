use Rattle.std.proofs.Common.{List, subst}
use Rattle.pb_schema.specs.Types.{FieldView, message_fields}
use Rattle.pb_json_read.specs.NameTables.{IsFieldTable}
use Rattle.pb_json_read.proofs.NameTableLemmas.{tables_put}
use Rattle.pb_json_read.proofs.tables.add_fields.Goals as goal

pub returns : goal.returns
returns c =
    let m = c.args.message.0 in
    let table = subst (λ (fs : List FieldView). IsFieldTable c.args.names.now m fs c.in_ok-table.table) c.fields_of.ensures.listed c.in_ok-table.ensures in
    tables_put (λ i t. IsFieldTable c.args.names.now i (message_fields c.args.pool.now i) t) c.args.tables.now c.insert.new.self m c.in_ok-table.table table
    c.in_ok-insert.ensures.updates.0
