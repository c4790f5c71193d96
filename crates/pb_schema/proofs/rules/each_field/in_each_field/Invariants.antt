use Rattle.std.proofs.Common.{◌↔◌, map, drop}
use Rattle.std.specs.List.{AllByRecursion}
use Rattle.pb_schema.specs.View.{message_view, field_view}
use Rattle.pb_schema.proofs.rules.each_field.in_each_field.Given as goal

abbrev pub invariant-loop-field : goal.invariant-loop-field
invariant-loop-field g l =
    AllByRecursion (g.R.FieldRule.Holds l.rule (message_view l.message)) (map field_view l.message.fields.items) ↔ AllByRecursion (g.R.FieldRule.Holds l.rule (message_view l.message)) (map field_view (drop l.field-index l.field-items))
