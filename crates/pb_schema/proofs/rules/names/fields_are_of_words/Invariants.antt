use Rattle.std.proofs.Common.{◌↔◌, map, drop}
use Rattle.std.specs.List.{AllByRecursion}
use Rattle.pb_schema.specs.View.{field_view}
use Rattle.pb_schema.specs.Names.{names_of_field}
use Rattle.pb_schema.specs.Rules.{AreWords}
use Rattle.pb_schema.proofs.rules.names.fields_are_of_words.Given as goal

abbrev pub invariant-loop-field : goal.invariant-loop-field
invariant-loop-field l =
    AllByRecursion (λ f. AreWords (names_of_field f)) (map field_view l.fields) ↔ AllByRecursion (λ f. AreWords (names_of_field f)) (map field_view (drop l.field-index l.fields))
