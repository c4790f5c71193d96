-- The first of several causes, and the answers that report it.
use Rattle.std.specs.Prelude.{◌≡◌, ◌⊎◌, Bool, true, false, Option, Some, None, Result, MatchResult}
use Rattle.pb_value.specs.declared.error.ValueError.{ValueError}
use Rattle.pb_value.specs.declared.error.ValueError.TheVariants.{Memory}

-- the first cause, or else the second
abbrev pub or_else : Option ValueError → Option ValueError → Option ValueError
or_else None c = c
or_else (Some e) c = Some e

-- the cause where a test fails
abbrev pub unless : Bool → ValueError → Option ValueError
unless true e = None
unless false e = Some e

-- a call is refused for the cause, or memory ran out
abbrev pub FailsWith : Option ValueError → ValueError → Type 0
FailsWith cause e = (e ≡ Memory) ⊎ (cause ≡ Some e)

-- a call is refused exactly where there is a cause, and with that cause, unless memory ran out
abbrev pub IsRefusedBy : {T : Type 0} → Result T ValueError → Option ValueError → Type 0
IsRefusedBy r cause = MatchResult r (λ _. cause ≡ None) (FailsWith cause)

-- an answer reports the cause, and where there is none the judged thing is good
abbrev pub Judges : {T : Type 0} → Result T ValueError → Option ValueError → Type 0 → Type 0
Judges r cause Good = MatchResult r (λ _. (cause ≡ None) × Good) (λ e. cause ≡ Some e)

-- the same, unless memory ran out
abbrev pub JudgesOrFails : {T : Type 0} → Result T ValueError → Option ValueError → Type 0 → Type 0
JudgesOrFails r cause Good = MatchResult r (λ _. (cause ≡ None) × Good) (λ e. FailsWith cause e)
