use Rattle.std.proofs.Common.{◌↔◌, map, drop}
use Rattle.std.specs.List.{AllByRecursion}
use Rattle.pb_schema.specs.View.{file_view, field_view, types_of}
use Rattle.pb_schema.specs.Rules.{TypeIsSeen}
use Rattle.pb_schema.specs.Imports.Sight.{KnowsSight}
use Rattle.pb_schema.proofs.rules.fields.fields_see_types.Given as goal

abbrev pub invariant-loop-field : goal.invariant-loop-field
invariant-loop-field l =
    (AllByRecursion (λ f. TypeIsSeen (types_of l.files l.messages l.enums) l.message.file f.kind) (map field_view l.message.fields.items) ↔ AllByRecursion (λ f. TypeIsSeen (types_of l.files l.messages l.enums) l.message.file f.kind) (map field_view (drop l.field-index l.field-items))) × KnowsSight (map file_view l.files) l.sight
