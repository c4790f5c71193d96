-- What a reader that stops waits for.
use Rattle.std.specs.Prelude.{◌≡◌, ◌⊎◌, ℕ, ◌<◌, List, [], length}
use Rattle.pb_wire.specs.Fault.{Place}
use Rattle.pb_wire.specs.Exact.{IsOver}
use Rattle.pb_schema.specs.Kinds.{wire_type_of}
use Rattle.pb_decode_parts.specs.declared.tokens.step.Step.{Step}
use Rattle.pb_decode_parts.specs.declared.tokens.step.Step.TheVariants as step
use Rattle.pb_decode_parts.specs.Open.Parents.{Parent}
use Rattle.pb_decode_parts.specs.Tokens.Numbers.{IsCutVarint, IsCutNumber}
use Rattle.pb_decode.specs.Reader.{State, here}

-- With these parents of the part, what comes next at this place is not whole in the bytes that are given. Where a tag may come, the message may
-- also be over.
abbrev pub WaitsAt : Step → List Parent → Place → Type 0
WaitsAt step.Tag parents p = IsCutVarint p ⊎ ((parents ≡ []) × IsOver p)
WaitsAt (step.Varint n q) parents p = IsCutNumber 0 p
WaitsAt (step.I64 n q) parents p = IsCutNumber 1 p
WaitsAt (step.I32 n q) parents p = IsCutNumber 5 p
WaitsAt (step.Length n q) parents p = IsCutVarint p
WaitsAt (step.Payload n q size) parents p = length p.rest < size
WaitsAt (step.Elements n k outer) parents p = IsCutNumber (wire_type_of k) p

-- more bytes are wanted after these
abbrev pub Waits : State → List ℕ → Type 0
Waits s rest = WaitsAt s.next s.parents (here s rest)

-- how many packed lists are open where this comes next
abbrev pub lists_in : Step → ℕ
lists_in (step.Elements n k outer) = 1
lists_in step.Tag = 0
lists_in (step.Varint n p) = 0
lists_in (step.I64 n p) = 0
lists_in (step.I32 n p) = 0
lists_in (step.Length n p) = 0
lists_in (step.Payload n p size) = 0
