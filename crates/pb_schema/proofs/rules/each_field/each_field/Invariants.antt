use Rattle.std.proofs.Common.{◌↔◌, map, drop}
use Rattle.pb_schema.specs.View.{message_view}
use Rattle.pb_schema.specs.Rules.{EachField}
use Rattle.pb_schema.proofs.rules.each_field.each_field.Given as goal

abbrev pub invariant-loop-message : goal.invariant-loop-message
invariant-loop-message g l =
    EachField (g.R.FieldRule.Holds l.rule) (map message_view l.messages) ↔ EachField (g.R.FieldRule.Holds l.rule) (map message_view (drop l.message-index l.messages))
