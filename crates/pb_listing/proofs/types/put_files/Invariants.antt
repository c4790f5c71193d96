use Rattle.std.proofs.Common.{take}
use Rattle.std.specs.List.{flat_map}
use Rattle.pb_schema.specs.View.{file_view}
use Rattle.pb_listing.specs.TypesListing.{file_line}
use Rattle.pb_output.specs.Sink.{Puts}
use Rattle.pb_listing.proofs.types.put_files.Given as goal

abbrev pub invariant-loop-file : goal.invariant-loop-file
invariant-loop-file g l =
    Puts g.O.Output.written g.O.Output.failures l.initial.out l.out l.initial.sink l.sink (flat_map (λ f. file_line (file_view f)) (take l.file-index l.files))
