-- What a seal, its parts and a box of a pool own is one and the same: the types at which the walks below read it.
use mir.Syntax.{impl, tnil, dnil}
use mathlib.Core.List.{[]}
use denote.Signature.{Slot, plain}
use Rattle.std_alloc.proofs.BoxSteps.Form.{Bx}
use Rattle.std_heap.specs.contracts.Global as Heap
use Rattle.std_heap.specs.contracts.GlobalAllocator.TheImpl.{ghosts, dict}
use Rattle.std_heap.proofs.Global.TheLaws as heap
use Rattle.pb_c_handles.specs.contracts.pool.shared.Shared as Shared
use Rattle.pb_c_handles.proofs.pool.shared.Shared.TheLaws as shared
use Rattle.pb_c_handles.specs.contracts.raw_box.RawBox as RawBox
use Rattle.pb_c_handles.specs.contracts.pool.seal.PoolSeal as Seal

-- a box of what a handle points to, from the heap
abbrev pub boxed : Bx
boxed = record {
  row = Shared.the_row;
  laws = shared.the_row_laws;
  al = record { row = Heap.the_row; laws = heap.the_row_laws; g = ghosts; d = dict; drops = impl [] tnil dnil };
}

abbrev pub parts_slot : Slot 0
parts_slot = plain (λ _. RawBox.the_row Shared.the_row Heap.the_row ghosts)

abbrev pub seal_slot : Slot 0
seal_slot = plain (λ _. Seal.the_row)
