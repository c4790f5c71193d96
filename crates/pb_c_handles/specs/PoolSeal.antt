-- What a seal owns: the same as a box of what it holds, or nothing.
use Rattle.std.specs.Prelude.{Option, Some, None}
use Rattle.std.specs.Coded.{coded_option}
use base.Fml.{Fml, ftrue}
use base.Stored.{Coded}
use denote.RawPtr.{Ptr}
use Rattle.std.specs.Box.Ownership.{box_owns}
use Rattle.std.specs.Global.{Global}
use Rattle.std_heap.specs.contracts.GlobalAllocator.TheImpl.{ghosts}
use Rattle.pb_c_handles.specs.contracts.pool.shared.Shared.{the_row}

abbrev pub seal_owns : Global → Ptr → Option the_row.Denot → Fml
seal_owns alloc at None = ftrue
seal_owns alloc at (Some s) = box_owns (ghosts.dealloc_token alloc) the_row at s

abbrev pub pool_coded : Coded (Option the_row.Denot)
pool_coded = coded_option the_row.coded
