-- A seal of a message may go to another thread, as the box that it owns may.
use base.Shift.{Keyless}
use denote.Memory.{lone}
use denote.Param.Send.{IsSend, AllSend, owning_send, plain_send, recorded_send, sendable, struct_send, view_send}
use denote.RawPtr.{Ptr}
use denote.Struct.Declared as Declared
use denote.Struct.Owning.{shape, fields, to}
use denote.Struct.Struct.{exits_of}
use mir.Raw.{raw}
use Rattle.std.specs.Prelude.{Option, Some, None}
use Rattle.std.specs.Global.{Global}
use Rattle.std.proofs.Crossing.{crosses, frees}
use Rattle.std.proofs.MapsCrossing as maps
use Rattle.std_alloc.proofs.SendSync.{quiet, lies}
use Rattle.std_alloc.proofs.arc.Arc.TheSendSync as arc
use Rattle.std_heap.proofs.Global.TheSendSync as handle
use Rattle.std_heap.proofs.GlobalAllocator.TheSendSync as allocator
use Rattle.std_heap.specs.contracts.Global as Heap
use Rattle.std_heap.specs.contracts.GlobalAllocator.TheImpl.{ghosts}
use Rattle.pb_wire.proofs.unknown.Unknown.TheLaws.TheKnot as unknown
use Rattle.pb_schema.proofs.pool.Pool.TheSendSync as pool
use Rattle.pb_schema.proofs.types.MessageId.TheSendSync as id
use Rattle.pb_schema.specs.contracts.pool.Pool as Pool
use Rattle.pb_value.proofs.body.Content.TheLaws.TheKnot as content
use Rattle.pb_c_message.specs.contracts.held.Held as Held
use Rattle.pb_c_handles.specs.contracts.message.own.OwnMessage as Own
use Rattle.pb_c_handles.specs.contracts.message.own.OwnMessage.TheInside as Inside
use Rattle.pb_c_handles.specs.MessageSeal.{seal_owns}
use Rattle.pb_c_handles.specs.contracts.message.seal.MessageSeal.{the_row, the_type}

-- what is held of a message: bytes, or fields, which hold messages in turn
held : IsSend (Held.the_field).row
held = search (maps.crosses, crosses, content.crosses, unknown.crosses, sendable) depth 60 fits 20000

own : IsSend Own.the_row
own = view_send Inside.the_row _ _ _ _ (recorded_send (Inside.the_field).row _ _ (Inside.the_type).to_one (struct_send (Declared.shape Inside.the_type) (
  arc.the_send Pool.the_row Heap.the_row ghosts pool.the_send handle.the_send pool.the_sync handle.the_sync allocator.the_frees,
  (id.the_field_send, (held, (plain_send _ _ _ _ _, tt))),
)))

-- what is owned names no thread
owned : (alloc : Global) (at : Ptr) (message : Option Own.the_row.Denot) → Keyless (seal_owns alloc at message)
owned alloc at None = tt
owned alloc at (Some m) = (lies Own.the_row own at m, frees.frees alloc (raw (lone Own.the_row.mir)) at)

words : AllSend (fields the_type)
words = (search sendable, (handle.the_field_send, tt))

pub send : IsSend the_row
send = owning_send the_type words (λ s. owned s.alloc s.at s.message) (λ kept. quiet (to the_type) (exits_of kept (fields the_type)) ((struct_send (shape the_type) words).leaving kept))
