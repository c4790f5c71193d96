use Rattle.std.proofs.Common.{◌≡◌, map, take}
use Rattle.pb_schema.specs.View.{file_view, message_view, bytes_of}
use Rattle.pb_schema.specs.Names.{message_name}
use Rattle.pb_schema.proofs.names.message_names.Given as goal

abbrev pub invariant-loop-message : goal.invariant-loop-message
invariant-loop-message l =
    bytes_of l.names.items ≡ map (message_name (map file_view l.files) (map message_view l.messages)) (map message_view (take l.message-index l.messages))
