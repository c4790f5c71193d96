-- A seal of a decoder may go to another thread, as the box that it owns may.
use base.Shift.{Keyless}
use denote.Memory.{lone}
use denote.Param.Send.{IsSend, AllSend, owning_send, recorded_send, sendable, struct_send, view_send}
use denote.RawPtr.{Ptr}
use denote.Struct.Declared as Struct
use denote.Struct.Owning.{shape, fields, to}
use denote.Struct.Struct.{exits_of}
use mir.Raw.{raw}
use Rattle.std.specs.Prelude.{Option, Some, None}
use Rattle.std.specs.Global.{Global}
use Rattle.std.proofs.Crossing.{frees}
use Rattle.std_alloc.proofs.SendSync.{quiet, lies}
use Rattle.std_alloc.proofs.arc.Arc.TheSendSync as arc
use Rattle.std_heap.proofs.Global.TheSendSync as handle
use Rattle.std_heap.proofs.GlobalAllocator.TheSendSync as allocator
use Rattle.std_heap.specs.contracts.Global as Heap
use Rattle.std_heap.specs.contracts.GlobalAllocator.TheImpl.{ghosts}
use Rattle.pb_schema.proofs.pool.Pool.TheSendSync as pool
use Rattle.pb_schema.specs.contracts.pool.Pool as Pool
use Rattle.pb_c_handles.proofs.PartsSend.{parts}
use Rattle.pb_c_handles.specs.contracts.decoder.own.OwnDecoder as Own
use Rattle.pb_c_handles.specs.contracts.decoder.own.OwnDecoder.TheInside as Inside
use Rattle.pb_c_handles.specs.DecoderSeal.{seal_owns}
use Rattle.pb_c_handles.specs.contracts.decoder.seal.DecoderSeal.{the_row, the_type}

own : IsSend Own.the_row
own = view_send Inside.the_row _ _ _ _ (recorded_send (Inside.the_field).row _ _ (Inside.the_type).to_one (struct_send (Struct.shape Inside.the_type)
    (arc.the_send Pool.the_row Heap.the_row ghosts pool.the_send handle.the_send pool.the_sync handle.the_sync allocator.the_frees, (parts, tt))))

-- what is owned names no thread
owned : (alloc : Global) (at : Ptr) (decoder : Option Own.the_row.Denot) → Keyless (seal_owns alloc at decoder)
owned alloc at None = tt
owned alloc at (Some d) = (lies Own.the_row own at d, frees.frees alloc (raw (lone Own.the_row.mir)) at)

words : AllSend (fields the_type)
words = (search sendable, (handle.the_field_send, tt))

pub send : IsSend the_row
send = owning_send the_type words (λ s. owned s.alloc s.at s.decoder) (λ kept. quiet (to the_type) (exits_of kept (fields the_type)) ((struct_send (shape the_type) words).leaving kept))
