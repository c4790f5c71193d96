use Rattle.std.proofs.Common.{◌↔◌, map, drop}
use Rattle.std.specs.List.{AllByRecursion}
use Rattle.pb_schema.specs.View.{message_view, enum_view}
use Rattle.pb_schema.specs.Rules.{IsInFileOfParent}
use Rattle.pb_schema.proofs.rules.indexes.enums_share_file_with_parent.Given as goal

abbrev pub invariant-loop-entry : goal.invariant-loop-entry
invariant-loop-entry l =
    AllByRecursion (λ t. IsInFileOfParent (map message_view l.messages) t.file t.parent) (map enum_view l.enums) ↔ AllByRecursion (λ t. IsInFileOfParent (map message_view l.messages) t.file t.parent) (map enum_view (drop l.entry-index l.enums))
