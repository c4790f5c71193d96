use Rattle.std.proofs.Common.{◌≡◌, take}
use Rattle.pb_schema.proofs.NumberLemmas.{entries_from}
use Rattle.pb_schema.proofs.tables.numbers.rising_numbers.Given as goal

abbrev pub invariant-loop-index : goal.invariant-loop-index
invariant-loop-index l = l.table.items ≡ entries_from 0 (take l.index l.fields)
