-- What a length opens where a reader is.
use Rattle.std.specs.Prelude.{◌≡◌, ℕ, List, Result, OnOk}
use Rattle.pb_wire.specs.Record.{Record}
use Rattle.pb_wire.specs.Fault.{Place, HasLength}
use Rattle.pb_schema.specs.Types.{Types}
use Rattle.pb_schema.specs.Rules.{IsPool}
use Rattle.pb_decode_parts.specs.declared.open.target.Target.{Target}
use Rattle.pb_decode.specs.declared.reader.state.State.{State as StateKept}
use Rattle.pb_decode_parts.specs.declared.tokens.step.Step.TheVariants as step
use Rattle.pb_decode_parts.specs.Open.Parents.{CanHold}
use Rattle.pb_decode_parts.specs.Open.PartView.{part_view, scope_view}
use Rattle.pb_decode_parts.specs.Tokens.After.{After}
use Rattle.pb_decode.specs.Reader.{parents_view, state_view, Reads}

-- after a length of this size, where its payload begins, the reader goes on by what its record is for
abbrev pub PassesLength : {A E : Type 0} → ℕ → Target → ℕ → ℕ → StateKept → StateKept → Result A E → Type 0
PassesLength number meant begin size old new result =
    (pool : Types) (m depth levels : ℕ) (base : List Record) (p0 u t : Place)
    → IsPool pool → CanHold pool (part_view old.part)
    → After pool m depth levels base p0 (parents_view old.parents.items) (step.Length number meant) (part_view old.part) (scope_view old.scope) u
    → HasLength u size t → t.at ≡ begin → OnOk result (Reads pool m depth levels base p0 (state_view new) t.rest)
