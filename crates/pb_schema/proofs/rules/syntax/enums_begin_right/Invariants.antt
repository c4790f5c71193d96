use Rattle.std.proofs.Common.{◌↔◌, map, drop}
use Rattle.pb_schema.specs.View.{file_view, enum_view}
use Rattle.pb_schema.specs.Rules.{EnumsBeginRight}
use Rattle.pb_schema.proofs.rules.syntax.enums_begin_right.Given as goal

abbrev pub invariant-loop-entry : goal.invariant-loop-entry
invariant-loop-entry l =
    EnumsBeginRight (map file_view l.files) (map enum_view l.enums) ↔ EnumsBeginRight (map file_view l.files) (map enum_view (drop l.entry-index l.enums))
