use Rattle.std.proofs.Common.{◌↔◌, map, drop}
use Rattle.std.specs.List.{AllByRecursion}
use Rattle.pb_schema.specs.View.{message_view}
use Rattle.pb_schema.specs.Rules.{IsInFileOfParent}
use Rattle.pb_schema.proofs.rules.indexes.messages_share_file_with_parent.Given as goal

abbrev pub invariant-loop-message : goal.invariant-loop-message
invariant-loop-message l =
    AllByRecursion (λ t. IsInFileOfParent (map message_view l.messages) t.file t.parent) (map message_view l.messages) ↔ AllByRecursion (λ t. IsInFileOfParent (map message_view l.messages) t.file t.parent) (map message_view (drop l.message-index l.messages))
