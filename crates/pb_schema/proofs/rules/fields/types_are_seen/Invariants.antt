use Rattle.std.proofs.Common.{◌↔◌, map, drop}
use Rattle.pb_schema.specs.View.{file_view, message_view, types_of}
use Rattle.pb_schema.specs.Rules.{EachField, TypeIsSeen}
use Rattle.pb_schema.specs.Imports.Sight.{KnowsSight}
use Rattle.pb_schema.proofs.rules.fields.types_are_seen.Given as goal

abbrev pub invariant-loop-message : goal.invariant-loop-message
invariant-loop-message l =
    (EachField (λ t f. TypeIsSeen (types_of l.files l.messages l.enums) t.file f.kind) (map message_view l.messages) ↔ EachField (λ t f. TypeIsSeen (types_of l.files l.messages l.enums) t.file f.kind) (map message_view (drop l.message-index l.messages))) × KnowsSight (map file_view l.files) l.sight
