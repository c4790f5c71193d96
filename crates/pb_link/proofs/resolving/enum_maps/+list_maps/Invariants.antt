use Rattle.std.proofs.Common.{map}
use Rattle.pb_declarations.specs.View.{message_view}
use Rattle.pb_link.specs.EnumMaps.{message_without_maps}
use Rattle.pb_link.proofs.EnumMapLemmas.{ChangedBelow}
use Rattle.pb_link.proofs.resolving.enum_maps.+list_maps.Given as goal

abbrev pub invariant-list_maps-loop-message : goal.invariant-list_maps-loop-message
invariant-list_maps-loop-message l = record {
  unvisited : goal.unvisited-list_maps-loop-message l;
  changed : ChangedBelow message_view message_without_maps l.message-index (map message_view l.initial.messages) l.messages;
}
