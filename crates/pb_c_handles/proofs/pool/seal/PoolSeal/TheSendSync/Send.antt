-- A seal may go to another thread, as the box that it owns may.
use base.Shift.{Keyless}
use denote.Memory.{lone}
use denote.Param.Send.{IsSend, AllSend, owning_send, struct_send, sendable}
use denote.RawPtr.{Ptr}
use denote.Struct.Owning.{shape, fields, to}
use denote.Struct.Struct.{exits_of}
use mir.Raw.{raw}
use Rattle.std.specs.Prelude.{Option, Some, None}
use Rattle.std.specs.Global.{Global}
use Rattle.std.proofs.Crossing.{frees}
use Rattle.std_alloc.proofs.SendSync.{quiet, lies}
use Rattle.std_heap.proofs.Global.TheSendSync as handle
use Rattle.pb_c_handles.specs.contracts.pool.shared.Shared as Shared
use Rattle.pb_c_handles.proofs.pool.shared.Shared.TheSendSync.{the_send as shared}
use Rattle.pb_c_handles.specs.PoolSeal.{seal_owns}
use Rattle.pb_c_handles.specs.contracts.pool.seal.PoolSeal.{the_row, the_type}

-- what is owned names no thread
owned : (alloc : Global) (at : Ptr) (held : Option Shared.the_row.Denot) → Keyless (seal_owns alloc at held)
owned alloc at None = tt
owned alloc at (Some s) = (lies Shared.the_row shared at s, frees.frees alloc (raw (lone Shared.the_row.mir)) at)

words : AllSend (fields the_type)
words = (search sendable, (handle.the_field_send, tt))

pub send : IsSend the_row
send = owning_send the_type words (λ s. owned s.alloc s.at s.pool) (λ kept. quiet (to the_type) (exits_of kept (fields the_type)) ((struct_send (shape the_type) words).leaving kept))
