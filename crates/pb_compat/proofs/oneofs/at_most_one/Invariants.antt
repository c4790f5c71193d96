use Rattle.std.proofs.Common.{◌≡◌, drop}
use Rattle.pb_schema.specs.Types.{message_fields}
use Rattle.pb_compat.specs.Oneofs.{at_most_one, shapes_of}
use Rattle.pb_compat.proofs.OneofLemmas.{gathers}
use Rattle.pb_compat.proofs.oneofs.at_most_one.Given as goal

abbrev pub invariant-loop-number : goal.invariant-loop-number
invariant-loop-number l =
    let fs = message_fields l.pool l.message.0 in
    at_most_one (shapes_of fs l.numbers) ≡ gathers l.first (shapes_of fs (drop l.number-index l.numbers))
