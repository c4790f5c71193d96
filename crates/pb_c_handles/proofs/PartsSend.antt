-- What a decoder has read so far may go to another thread.
use denote.Enum.Declared as Enum
use denote.Param.Send.{IsSend, enum_send, plain_send, recorded_send, sendable, struct_send, view_send}
use denote.Struct.Declared as Struct
use Rattle.std.proofs.Crossing.{crosses}
use Rattle.std.proofs.MapsCrossing as maps
use Rattle.pb_wire.proofs.limits.Limits.TheSendSync as limits
use Rattle.pb_wire.proofs.unknown.Unknown.TheLaws.TheKnot as unknown
use Rattle.pb_schema.proofs.types.Kind.TheSendSync as kind
use Rattle.pb_schema.proofs.types.MessageId.TheSendSync as id
use Rattle.pb_value.proofs.body.Content.TheLaws.TheKnot as content
use Rattle.pb_value.proofs.body.MapKey.TheSendSync as key
use Rattle.pb_decode_parts.proofs.open.part.Scope.TheSendSync as scope
use Rattle.pb_decode_parts.proofs.open.part.Slot.TheSendSync as slot
use Rattle.pb_decode_parts.proofs.tokens.step.Step.TheSendSync as step
use Rattle.pb_decode_parts.specs.contracts.open.part.Entry as Entry
use Rattle.pb_decode_parts.specs.contracts.open.part.Part as Part
use Rattle.pb_decode_parts.specs.contracts.open.part.Parent as Parent
use Rattle.pb_decode.specs.contracts.decoder_parts.DecoderParts as Parts
use Rattle.pb_decode.specs.contracts.decoder_parts.DecoderParts.TheInside as Inside
use Rattle.pb_decode.specs.contracts.push.Reading as Reading
use Rattle.pb_decode.specs.contracts.reader.state.State as State

entry : IsSend (Entry.the_field).row
entry = struct_send (Struct.shape Entry.the_type) (
  kind.the_field_send,
  (
    kind.the_field_send,
    (
      search (crosses, key.the_send, sendable) depth 60 fits 20000,
      (search (maps.crosses, crosses, content.crosses, unknown.crosses, sendable) depth 60 fits 20000, tt),
    ),
  ),
)

part : IsSend (Part.the_field).row
part = enum_send (Enum.shape Part.the_type) (
  (id.the_field_send, (search (maps.crosses, crosses, content.crosses, unknown.crosses, sendable) depth 60 fits 20000, tt)),
  (
    (entry, tt),
    ((search (maps.crosses, crosses, content.crosses, unknown.crosses, sendable) depth 60 fits 20000, tt), tt),
  ),
)

parent : IsSend (Parent.the_field).row
parent = struct_send (Struct.shape Parent.the_type) (part, (plain_send _ _ _ _ _, (slot.the_field_send, (search sendable, (scope.the_field_send, tt)))))

state : IsSend (State.the_field).row
state = struct_send (Struct.shape State.the_type)
    (plain_send _ _ _ _ _, (part, (scope.the_field_send, (search (crosses, parent, sendable) depth 60 fits 20000, (step.the_field_send, tt)))))

reading : IsSend (Reading.the_field).row
reading = struct_send (Struct.shape Reading.the_type) (state, (search (crosses, sendable) depth 60 fits 20000, tt))

pub parts : IsSend Parts.the_row
parts = view_send Inside.the_row _ _ _ _ (recorded_send (Inside.the_field).row _ _ (Inside.the_type).to_one (struct_send (Struct.shape Inside.the_type)
    (id.the_field_send, (limits.the_send, (search (crosses, reading, sendable) depth 60 fits 20000, tt)))))
