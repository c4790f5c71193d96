use Rattle.std.proofs.Common.{◌↔◌, map, drop}
use Rattle.pb_schema.specs.View.{enum_view}
use Rattle.pb_schema.specs.Rules.{EnumNamesAreWords}
use Rattle.pb_schema.proofs.rules.names.enum_names_are_words.Given as goal

abbrev pub invariant-loop-entry : goal.invariant-loop-entry
invariant-loop-entry l =
    EnumNamesAreWords (map enum_view l.enums) ↔ EnumNamesAreWords (map enum_view (drop l.entry-index l.enums))
