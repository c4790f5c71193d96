use Rattle.std.proofs.Common.{◌+◌, ◌≤◌}
use Rattle.pb_wire.specs.Record.{group_depth, group_of}
use Rattle.pb_wire.specs.Unknown.{records_of}
use Rattle.pb_listing.specs.RawListing.{group_lines}
use Rattle.pb_listing.proofs.ListingLemmas.{group_from, group_depth_from}
use Rattle.pb_listing.proofs.PuttingLemmas.{IsLeft}
use Rattle.pb_listing.proofs.unknown.+unknown.Given as goal

abbrev pub invariant-put_group-loop-number : goal.invariant-put_group-loop-number
invariant-put_group-loop-number g l =
    l.level + group_depth (group_of (records_of l.records)) ≤ 101
    → IsLeft g.O.Output.written g.O.Output.failures l.initial.out l.out l.initial.sink l.sink l.level (group_depth_from l.number-index l.records) (group_from l.level l.number-index l.records)
    (group_lines l.level (group_of (records_of l.records)))
