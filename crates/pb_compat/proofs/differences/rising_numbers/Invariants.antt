use Rattle.std.proofs.Common.{◌≡◌, map, take}
use Rattle.pb_schema.specs.View.{field_view}
use Rattle.pb_compat.proofs.differences.rising_numbers.Given as goal

abbrev pub invariant-loop-field : goal.invariant-loop-field
invariant-loop-field l = l.numbers.items ≡ map (λ f. f.number) (map field_view (take l.field-index l.fields))
