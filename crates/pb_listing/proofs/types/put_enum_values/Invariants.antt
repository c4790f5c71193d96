use Rattle.std.proofs.Common.{take, string_bytes}
use Rattle.std.specs.List.{flat_map}
use Rattle.pb_listing.specs.TypesListing.{value_line}
use Rattle.pb_output.specs.Sink.{Puts}
use Rattle.pb_listing.proofs.types.put_enum_values.Given as goal

abbrev pub invariant-loop-name : goal.invariant-loop-name
invariant-loop-name g l =
    Puts g.O.Output.written g.O.Output.failures l.initial.out l.out l.initial.sink l.sink (flat_map (λ v. value_line l.full_name (string_bytes v.0, v.1)) (take l.name-index l.values))
