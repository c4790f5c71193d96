-- What ends where a reader is.
use Rattle.std.specs.Prelude.{◌≡◌, ◌≢◌, ◌⊎◌, ℕ, List, [], drop, Option, Some, None, ◌<◌, Result, OnOk, vec_len}
use Rattle.pb_decode_parts.specs.declared.tokens.step.Step.{Step}
use Rattle.pb_decode_parts.specs.declared.tokens.step.Step.TheVariants as step
use Rattle.pb_decode_parts.specs.Open.Parents.{Parent}
use Rattle.pb_decode_parts.specs.Open.Openings.{innermost_group}
use Rattle.pb_decode.specs.Reader.{State, left_of, parents_view, state_view, here, Reads}
use Rattle.pb_wire.specs.Record.{Record}
use Rattle.pb_wire.specs.Fault.{Place, HasTag}
use Rattle.pb_wire.specs.Scan.{passed}
use Rattle.pb_schema.specs.declared.types.Kind.{Kind}
use Rattle.pb_schema.specs.Types.{Types}
use Rattle.pb_schema.specs.Rules.{IsPool}
use Rattle.pb_decode.specs.declared.reader.state.State.{State as StateKept}
use Rattle.pb_decode_parts.specs.declared.tokens.step.Step.TheVariants.{Elements}

-- with these parents of the part, and this many bytes before the known end, nothing ends before what comes next: at a tag no part below the top, and
-- inside a packed list not the list
abbrev pub StepGoesOn : Step → List Parent → Option ℕ → Type 0
StepGoesOn step.Tag parents left = (parents ≡ []) ⊎ (left ≢ Some 0)
StepGoesOn (step.Elements n k outer) parents left = left ≢ Some 0
StepGoesOn (step.Varint n p) parents left = Unit {0}
StepGoesOn (step.I64 n p) parents left = Unit {0}
StepGoesOn (step.I32 n p) parents left = Unit {0}
StepGoesOn (step.Length n p) parents left = Unit {0}
StepGoesOn (step.Payload n p size) parents left = Unit {0}

-- nothing ends at the reader's position
abbrev pub NothingEnds : State → Type 0
NothingEnds s = StepGoesOn s.next s.parents (left_of s)

-- a part below the top ends at a tag
abbrev pub PartEnds : StateKept → Type 0
PartEnds r = (0 < vec_len r.parents) × (left_of (state_view r) ≡ Some 0)

-- none does
abbrev pub PartGoesOn : StateKept → Type 0
PartGoesOn r = (parents_view r.parents.items ≡ []) ⊎ (left_of (state_view r) ≢ Some 0)

-- a packed list whose known end is reached is a whole record, and its part goes on to its own end
abbrev pub EndsList : {A E : Type 0} → ℕ → Option ℕ → StateKept → StateKept → Result A E → Type 0
EndsList number outer old new result =
    (pool : Types) (m depth levels : ℕ) (kind : Kind) (base : List Record) (p0 : Place) (rest : List ℕ)
    → IsPool pool → Reads pool m depth levels base p0 (state_view old) rest → old.step ≡ Elements number kind outer → left_of (state_view old) ≡ Some 0
    → OnOk result (Reads pool m depth levels base p0 (state_view new) rest)

-- with this group innermost, if one is, the innermost part ends at this place with this many bytes: a group with its last tag, and any other part with
-- none, where its known end is reached
abbrev pub EndsWith : Option ℕ → Place → ℕ → Type 0
EndsWith None q used = (used ≡ 0) × (q.known ≡ Some 0)
EndsWith (Some number) q used = HasTag q number 4 (passed q used)

-- the innermost part is closed, which ends with this many bytes
abbrev pub EndsPart : {A E : Type 0} → Types → StateKept → StateKept → ℕ → Result A E → Type 0
EndsPart pool old new used result =
    (m depth levels : ℕ) (base : List Record) (p0 : Place) (rest : List ℕ)
    → Reads pool m depth levels base p0 (state_view old) rest → EndsWith (innermost_group (parents_view old.parents.items)) (here (state_view old) rest) used
    → OnOk result (Reads pool m depth levels base p0 (state_view new) (drop used rest))
