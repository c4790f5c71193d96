use Rattle.std.proofs.Common.{map}
use Rattle.pb_schema.specs.View.{field_view}
use Rattle.std.proofs.Common.{◌≡◌, take}
use Rattle.pb_schema.specs.Names.{AllDiffer}
use Rattle.pb_schema.proofs.rules.fields.field_numbers_differ.Given as goal

abbrev pub invariant-loop-field : goal.invariant-loop-field
invariant-loop-field l =
    (l.numbers.keys ≡ map (λ f. f.number) (map field_view (take l.field-index l.fields))) × AllDiffer l.numbers.keys
