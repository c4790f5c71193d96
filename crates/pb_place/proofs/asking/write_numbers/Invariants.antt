use Rattle.std.proofs.Common.{◌≡◌, ◌≤◌, length}
use Rattle.pb_value.specs.View.{fields_view}
use Rattle.pb_place.specs.Ask.{numbers_of, laid_over}
use Rattle.pb_place.proofs.Counts.{laid_from}
use Rattle.pb_place.proofs.asking.write_numbers.Given as goal

-- the numbers that are left are yet to be laid, from where the written ones end
abbrev pub invariant-loop-number : goal.invariant-loop-number
invariant-loop-number l = record {
  within : l.count ≤ length l.buffer;
  laid : laid_over (numbers_of (fields_view l.fields.entries)) l.initial.buffer ≡ laid_from l.count (numbers_of (fields_view l.number-iterator)) l.buffer;
}
