use Rattle.std.proofs.Common.{◌↔◌, ◌-◌, map, drop}
use Rattle.pb_schema.specs.View.{message_view}
use Rattle.pb_schema.specs.Rules.{FilesRise}
use Rattle.pb_schema.proofs.rules.order.files_rise.Given as goal

abbrev pub invariant-loop-next : goal.invariant-loop-next
invariant-loop-next l =
    FilesRise (map message_view l.messages) ↔ FilesRise (map message_view (drop (l.next - 1) l.messages))
