use Rattle.std.proofs.Common.{List, map, subst, arith}
use Rattle.pb_schema.specs.declared.types.Field.{Field}
use Rattle.pb_schema.specs.Types.{FieldView}
use Rattle.pb_schema.specs.View.{field_view}
use Rattle.pb_schema.specs.Names.Set.{IsSetOf}
use Rattle.pb_schema.proofs.NumberLemmas.{all_taken}
use Rattle.pb_schema.proofs.tables.names.simple_names.Goals as goal

pub returns : goal.returns
returns c =
    subst (λ (l : List Field). IsSetOf (map (λ (f : FieldView). f.name) (map field_view l)) c.loop-field.names) (all_taken c.args.fields.now c.loop-field.field-index (omega arith)) c.loop-field.invariant
