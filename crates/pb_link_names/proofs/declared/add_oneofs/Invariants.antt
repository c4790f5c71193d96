use Rattle.std.proofs.Common.{◌≡◌, ◌++◌, map, take, string_bytes}
use Rattle.pb_declarations.specs.View.{message_view}
use Rattle.pb_link_names.specs.Declarations.{oneofs_of, head_of}
use Rattle.pb_link_names.specs.View.{declaration_view}
use Rattle.pb_link_names.proofs.declared.add_oneofs.Given as goal

abbrev pub invariant-loop-index : goal.invariant-loop-index
invariant-loop-index l = map declaration_view l.row.items ≡ map declaration_view l.initial.row.items ++ oneofs_of l.parent.file l.parent.index l.parent.scope.now (head_of (message_view l.message)) (map string_bytes (take l.index l.oneofs))
