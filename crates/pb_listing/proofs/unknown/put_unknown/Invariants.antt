use Rattle.std.proofs.Common.{◌+◌, ◌≤◌}
use Rattle.pb_wire.specs.Record.{records_depth}
use Rattle.pb_wire.specs.Unknown.{records_of}
use Rattle.pb_listing.specs.Listing.{unknown_lines}
use Rattle.pb_listing.proofs.ListingLemmas.{unknown_from, unknown_depth}
use Rattle.pb_listing.proofs.PuttingLemmas.{IsLeft}
use Rattle.pb_listing.proofs.unknown.put_unknown.Given as goal

abbrev pub invariant-loop-number : goal.invariant-loop-number
invariant-loop-number g l =
    l.level + records_depth (records_of l.records) ≤ 101
    → IsLeft g.O.Output.written g.O.Output.failures l.initial.out l.out l.initial.sink l.sink l.level (unknown_depth l.number-index l.records) (unknown_from l.level l.number-index l.records)
    (unknown_lines l.level (records_of l.records))
