use Rattle.std.proofs.Common.{take}
use Rattle.std.specs.List.{flat_map}
use Rattle.pb_listing.specs.FieldOwner.{field_line_of}
use Rattle.pb_output.specs.Sink.{Puts}
use Rattle.pb_listing.proofs.types.put_message_fields.Given as goal

abbrev pub invariant-loop-field : goal.invariant-loop-field
invariant-loop-field g l =
    Puts g.O.Output.written g.O.Output.failures l.initial.out l.out l.initial.sink l.sink (flat_map (field_line_of l.owner) (take l.field-index l.fields))
