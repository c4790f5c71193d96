use Rattle.std.proofs.Common.{Option, sym, ap, subst, ◌∙◌}
use Rattle.std.specs.Prelude.{IfSome}
use Rattle.std.specs.Option.{option_copied}
use Rattle.pb_schema.specs.Types.{message_fields}
use Rattle.pb_json_read.specs.NameTables.{IsFieldTable, NameTable}
use Rattle.pb_json_read.proofs.names.field_meant.Goals as goal

pub returns-in-Some-clause-found : goal.returns-in-Some-clause-found
returns-in-Some-clause-found c =
    let m = c.args.message.0 in
    c.in_table.ensures.found c.args.names.now
    (subst (λ (o : Option NameTable). IfSome o (IsFieldTable c.args.names.now m (message_fields c.args.pool.now m)))
    (sym c.get.ensures.value ∙ ap option_copied c.in-Some.is) (c.requires.tables m))

pub returns-in-Some-clause-rules : goal.returns-in-Some-clause-rules
returns-in-Some-clause-rules c =
    let m = c.args.message.0 in
    c.in_table.ensures.rules c.args.names.now
    (subst (λ (o : Option NameTable). IfSome o (IsFieldTable c.args.names.now m (message_fields c.args.pool.now m)))
    (sym c.get.ensures.value ∙ ap option_copied c.in-Some.is) (c.requires.tables m))
