use Rattle.pb_listing.specs.TypesListing.{lines_below, message_lines_at}
use Rattle.pb_output.specs.Sink.{Puts}
use Rattle.pb_listing.proofs.types.put_message_types.Given as goal

abbrev pub invariant-loop-index : goal.invariant-loop-index
invariant-loop-index g l =
    Puts g.O.Output.written g.O.Output.failures l.initial.out l.out l.initial.sink l.sink (lines_below l.index (message_lines_at l.pool))
