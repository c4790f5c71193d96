-- What a seal of a message, its parts and a box of a message own is one and the same: the types at which the walks below read it.
use mir.Syntax.{impl, tnil, dnil}
use mathlib.Core.List.{[]}
use denote.Signature.{Slot, plain}
use Rattle.std_alloc.proofs.BoxSteps.Form.{Bx}
use Rattle.std_heap.specs.contracts.Global as Heap
use Rattle.std_heap.specs.contracts.GlobalAllocator.TheImpl.{ghosts, dict}
use Rattle.std_heap.proofs.Global.TheLaws as heap
use Rattle.pb_c_handles.specs.contracts.message.own.OwnMessage as Own
use Rattle.pb_c_handles.proofs.message.own.OwnMessage.TheLaws as own
use Rattle.pb_c_handles.specs.contracts.raw_box.RawBox as RawBox
use Rattle.pb_c_handles.specs.contracts.message.seal.MessageSeal as Seal

-- a box of a message, from the heap
abbrev pub boxed : Bx
boxed = record {
  row = Own.the_row;
  laws = own.the_row_laws;
  al = record { row = Heap.the_row; laws = heap.the_row_laws; g = ghosts; d = dict; drops = impl [] tnil dnil };
}

abbrev pub parts_slot : Slot 0
parts_slot = plain (λ _. RawBox.the_row Own.the_row Heap.the_row ghosts)

abbrev pub seal_slot : Slot 0
seal_slot = plain (λ _. Seal.the_row)
