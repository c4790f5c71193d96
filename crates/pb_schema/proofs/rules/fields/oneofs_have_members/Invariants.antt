use Rattle.std.proofs.Common.{◌↔◌, map, drop}
use Rattle.pb_schema.specs.View.{message_view}
use Rattle.pb_schema.specs.Rules.{OneofsHaveMembers}
use Rattle.pb_schema.proofs.rules.fields.oneofs_have_members.Given as goal

abbrev pub invariant-loop-message : goal.invariant-loop-message
invariant-loop-message l =
    OneofsHaveMembers (map message_view l.messages) ↔ OneofsHaveMembers (map message_view (drop l.message-index l.messages))
