use Rattle.std.proofs.Common.{List, ℕ, ℤ, Option, sym, ap, subst, ◌∙◌}
use Rattle.std.specs.Prelude.{IfSome}
use Rattle.std.specs.Option.{option_copied}
use Rattle.pb_schema.specs.EnumValues.{enum_values}
use Rattle.pb_json_read.specs.NameTables.{IsValueTable, NameTable}
use Rattle.pb_json_read.proofs.scalars.number_in.Goals as goal

pub number_at-requires : goal.number_at-requires
number_at-requires c =
    subst (λ (vs : List (List ℕ × ℤ)). IsValueTable vs c.in-Some.table.now) (sym c.values_of-values.ensures)
    (subst (λ (o : Option NameTable). IfSome o (IsValueTable (enum_values c.args.context.now.pool.now c.args.id.0)))
    (sym c.get.ensures.value ∙ ap option_copied c.in-Some.is) (c.args.context.now.values_known c.args.id.0))
