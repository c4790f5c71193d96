use Rattle.std.proofs.Common.{take}
use Rattle.std.specs.List.{flat_map}
use Rattle.pb_listing.specs.Listing.{text_byte}
use Rattle.pb_output.specs.Sink.{Puts}
use Rattle.pb_listing.proofs.values.put_text_bytes.Given as goal

abbrev pub invariant-loop-byte : goal.invariant-loop-byte
invariant-loop-byte g l =
    Puts g.O.Output.written g.O.Output.failures l.initial.out l.out l.initial.sink l.sink (flat_map text_byte (take l.byte-index l.text))
