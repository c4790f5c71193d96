use Rattle.std.proofs.Common.{List, map, take}
use Rattle.pb_schema.specs.Types.{FileView}
use Rattle.pb_schema.specs.View.{message_view}
use Rattle.pb_schema.specs.Names.Declared.{MayAddMessages}
use Rattle.pb_schema.proofs.DeclareLemmas.{SoFar}
use Rattle.pb_schema.proofs.names.declared.add_messages.Given as goal

abbrev pub invariant-loop-message : goal.invariant-loop-message
invariant-loop-message l =
    (files : List FileView) → MayAddMessages files l.packages (map message_view l.messages) l.fn.declared → SoFar files (map message_view l.messages) (map message_view (take l.message-index l.messages)) l.indexes.items l.fn.declared l.declared
