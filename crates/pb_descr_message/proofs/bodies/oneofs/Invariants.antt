use Rattle.std.proofs.Common.{◌≡◌, map, take}
use Rattle.pb_value.specs.View.{value_view}
use Rattle.std.specs.Prelude.{string_bytes}
use Rattle.pb_descr_message.specs.Writing.{oneof_body}
use Rattle.pb_descr_message.proofs.bodies.oneofs.Given as goal

abbrev pub invariant-loop-name : goal.invariant-loop-name
invariant-loop-name l = map value_view l.values.items ≡ map oneof_body (map string_bytes (take l.name-index l.names))
