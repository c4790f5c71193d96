use Rattle.std.proofs.Common.{◌≡◌, ◌++◌, map, drop}
use Rattle.pb_schema.specs.View.{message_view}
use Rattle.pb_link_names.specs.View.{declaration_view}
use Rattle.pb_link.specs.Pools.{messages_read}
use Rattle.pb_link.proofs.pools.types.messages_of.Given as goal

abbrev pub invariant-loop-place : goal.invariant-loop-place
invariant-loop-place l = map message_view l.types.items ++ messages_read l.tables l.place (map declaration_view (drop l.place l.row)) ≡ messages_read l.tables 0 (map declaration_view l.row)
