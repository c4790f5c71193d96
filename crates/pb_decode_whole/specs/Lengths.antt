-- Lengths after tags.
use Rattle.std.specs.Prelude.{ℕ, List, Option, IfSome}
use Rattle.pb_wire.specs.Fault.{HasTag, HasLength}
use Rattle.pb_wire.specs.Scan.{given_at, passed}

-- after any tag of this many bytes the length of a payload is read, and where the payload begins
abbrev pub IsLengthAfter : ℕ → List ℕ → Option ℕ → ℕ × ℕ → Type 0
IsLengthAfter tag_size bytes left t =
    (at number type : ℕ) → HasTag (given_at at left bytes) number type (passed (given_at at left bytes) tag_size)
    → HasLength (passed (given_at at left bytes) tag_size) t.1 (passed (given_at at left bytes) t.0)

-- where they are read
abbrev pub TellsLength : ℕ → List ℕ → Option ℕ → Option (ℕ × ℕ) → Type 0
TellsLength tag_size bytes left result =
    (at number type : ℕ) → HasTag (given_at at left bytes) number type (passed (given_at at left bytes) tag_size)
    → IfSome result (λ t. HasLength (passed (given_at at left bytes) tag_size) t.1 (passed (given_at at left bytes) t.0))
