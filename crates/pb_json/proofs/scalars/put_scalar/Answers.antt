use Rattle.std.proofs.Common.{◌≡◌, ap, ◌∙◌, of_z, rules, to_z, w32}
use Rattle.pb_value.specs.View.{value_view}
use Rattle.pb_value.specs.declared.body.Value.{Value}
use Rattle.pb_json.specs.Mapping.{enum_json, scalar_or_null}
use Rattle.pb_json.proofs.MappingLemmas.{enum_held}
use Rattle.pb_json.proofs.PrintLemmas.{prints_same}
use Rattle.pb_json.proofs.scalars.put_scalar.Goals as goal

pub returns-in-Enum : goal.returns-in-Enum
returns-in-Enum g c =
    let pool = c.args.context.now.pool.now in
    let layout = c.args.context.now.form.layout in
    let same : c.in-Enum.number ≡ to_z w32 (of_z w32 c.in-Enum.number) = search rules in
    prints_same layout c.args.indent (enum_json pool c.args.kind (to_z w32 (of_z w32 c.in-Enum.number))) _
    (ap (λ (v : Value). scalar_or_null pool c.args.kind (value_view v)) c.in-Enum.is
    ∙ ap (scalar_or_null pool c.args.kind) (enum_held c.in-Enum.number) ∙ ap (enum_json pool c.args.kind) same)
    (c.put_enum.ensures layout c.args.indent)
