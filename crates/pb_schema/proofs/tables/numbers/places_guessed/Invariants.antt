use Rattle.std.proofs.Common.{◌≤◌, ◌+◌, ◌*◌, length}
use Rattle.pb_schema.proofs.tables.numbers.places_guessed.Given as goal

abbrev pub invariant-loop-index : goal.invariant-loop-index
invariant-loop-index l = length l.guesses.items ≤ 8 * length l.fields + 1
