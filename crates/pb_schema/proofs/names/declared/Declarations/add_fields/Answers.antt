use Rattle.std.proofs.Common.{subst, arith}
use Rattle.pb_schema.specs.View.{field_view}
use Rattle.pb_schema.specs.Names.{names_of_field}
use Rattle.pb_schema.specs.Names.Declared.{Adds}
use Rattle.pb_schema.proofs.AddLemmas.{added_all}
use Rattle.pb_schema.proofs.DeclareLemmas.{Adds-none, adds_more}
use Rattle.pb_schema.proofs.names.declared.Declarations.add_fields.Goals as goal

pub loop-field-init : goal.loop-field-init
loop-field-init c = Adds-none c.args.scope c.args.self.now

pub loop-field-preserved : goal.loop-field-preserved
loop-field-preserved c =
    adds_more c.args.scope (λ f. names_of_field (field_view f)) c.args.fields.now c.loop-field.field-index c.field-item.result c.args.self.now c.loop-field.self _ (omega arith) c.field-item.is c.loop-field.invariant c.in_ok-add_field.ensures

pub returns : goal.returns
returns c =
    subst (λ l. Adds c.args.scope l c.args.self.now c.loop-field.self) (added_all names_of_field field_view c.args.fields.now c.loop-field.field-index (omega arith)) c.loop-field.invariant
