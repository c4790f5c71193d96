-- The records before a record determine its step of a path, and nothing else of its fault.
use Rattle.std.proofs.Common.{◌≡◌, ℕ, List, [], ◌∷◌, ap}
use Rattle.pb_wire.specs.Record.{Record}
use Rattle.pb_wire.specs.Fault.{Fault, fault, step, Place}
use Rattle.pb_wire.specs.Schema.{Schema, Open}
use Rattle.pb_wire.specs.Grammar.{RecordFault}
use Rattle.pb_wire.specs.declared.fault.PathStep.{PathStep}
use Rattle.pb_wire.specs.declared.fault.Cause.{Cause}

-- the same fault below another path
again :
    {f : Fault} {byte : ℕ} {steps others : List PathStep} {c : Cause} → f ≡ fault byte steps c → fault f.byte others f.cause ≡ fault byte others c
again {others = others} is = ap (λ (z : Fault). fault z.byte others z.cause) is

-- the fault of a record, whichever whole records come before it
pub behind :
    {S : Schema} {o : Open S.Context} {others : List Record} {depth_left : ℕ} {p : Place} {f : Fault} (before : List Record) → RecordFault S o others depth_left p f
    → (path : List PathStep) × RecordFault S o before depth_left p (fault f.byte path f.cause)
behind {f = f} before (RecordFault.tag t) = (f.path, RecordFault.tag t)
behind before (RecordFault.group_too_deep {k = k} t z is) = (step k before ∷ [], RecordFault.group_too_deep t z (again is))
behind before (RecordFault.message_too_deep {k = k} t re z is) = (step k before ∷ [], RecordFault.message_too_deep t re z (again is))
behind before (RecordFault.varint {k = k} {g = g} t v is) = (step k before ∷ g.path, RecordFault.varint t v (again is))
behind before (RecordFault.fixed64 {k = k} {g = g} t v is) = (step k before ∷ g.path, RecordFault.fixed64 t v (again is))
behind before (RecordFault.fixed32 {k = k} {g = g} t v is) = (step k before ∷ g.path, RecordFault.fixed32 t v (again is))
behind before (RecordFault.in_a_group {k = k} {g = g} t bad is) = (step k before ∷ g.path, RecordFault.in_a_group t bad (again is))
behind before (RecordFault.length_of {k = k} {g = g} t a v is) = (step k before ∷ g.path, RecordFault.length_of t a v (again is))
behind before (RecordFault.cut_payload {k = k} {g = g} t re v is) = (step k before ∷ g.path, RecordFault.cut_payload t re v (again is))
behind before (RecordFault.bad_text {k = k} t re l given bad is) = (step k before ∷ [], RecordFault.bad_text t re l given bad (again is))
behind before (RecordFault.in_a_list {k = k} {g = g} t re l bad is) = (step k before ∷ g.path, RecordFault.in_a_list t re l bad (again is))
behind before (RecordFault.in_a_message {k = k} {g = g} t re l bad is) = (step k before ∷ g.path, RecordFault.in_a_message t re l bad (again is))
behind before (RecordFault.in_a_value {k = k} {g = g} t re l bad is) = (step k before ∷ g.path, RecordFault.in_a_value t re l bad (again is))
