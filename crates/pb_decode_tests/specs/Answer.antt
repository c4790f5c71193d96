-- What bytes are answered.
use Rattle.std.specs.Prelude.{◌≡◌, ℕ, List, map, Result, MatchResult}
use Rattle.std.specs.List.{concat}
use Rattle.std.specs.Borrow.{Bor}
use Rattle.pb_wire.specs.Limits.{Bounds}
use Rattle.pb_wire.specs.Grammar.{HasFault}
use Rattle.pb_schema.specs.Types.{Types}
use Rattle.pb_schema.specs.Context.{a_message, schema_of}
use Rattle.pb_value.specs.Derives.{Text}
use Rattle.pb_value.specs.Dynamic.{Dynamic}
use Rattle.pb_decode.specs.declared.error.DecodeError.{DecodeError}
use Rattle.pb_decode.specs.Reader.{IfFault}

-- the pieces, one after the other
abbrev pub joined : List (Bor (List ℕ)) → List ℕ
joined pieces = concat (map (λ p. p.now) pieces)

-- the message of the type that the bytes are a text of within the limits, or their fault; or there was no memory
abbrev pub Answers : Types → ℕ → Bounds → List ℕ → Result Dynamic DecodeError → Type 0
Answers pool m limits b r =
    MatchResult r (λ d. (d.pool ≡ pool) × (d.kind ≡ m) × Text pool m limits b d.body) (λ e. IfFault e (HasFault (schema_of pool) (a_message m) limits b))
