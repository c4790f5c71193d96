-- What is held of a message, as the message that it is.
use Rattle.std.specs.Prelude.{⊤, ℕ}
use Rattle.pb_wire.specs.Inside.{records_spelled}
use Rattle.pb_schema.specs.Types.{Types}
use Rattle.pb_value.specs.Data.{Message}
use Rattle.pb_value.specs.Dynamic.{Dynamic}
use Rattle.pb_value.specs.Value.{value}
use Rattle.pb_value.specs.View.{body_view}
use Rattle.pb_value.specs.WellFormed.{IsWellFormed}
use Rattle.pb_canonical.specs.Canonical.{IsCanonical}
use Rattle.pb_c_message.specs.declared.held.Held.{Held}
use Rattle.pb_c_message.specs.declared.held.Held.TheVariants as held

-- the value of the records that the bytes spell, or the fields themselves
abbrev pub body_held : Types → ℕ → Held → Message
body_held pool m (held.Bytes b) = value pool m (records_spelled b.items)
body_held pool m (held.Fields b) = body_view b

-- the fields themselves are held
abbrev pub HoldsFields : Held → Type 0
HoldsFields (held.Bytes b) = ⊥
HoldsFields (held.Fields b) = ⊤

-- the message of a value, beside its pool and its type
abbrev pub message_of : Types → ℕ → Message → Dynamic
message_of pool m v = record { pool = pool; kind = m; body = v }

-- the message of a type that is held
abbrev pub message_held : Types → ℕ → Held → Dynamic
message_held pool m h = record { pool = pool; kind = m; body = body_held pool m h }

-- bytes are the canonical encoding of a message of the type, and fields are those of a well-formed one
abbrev pub IsHeld : Types → ℕ → Held → Type 0
IsHeld pool m (held.Bytes b) = IsCanonical pool m b.items
IsHeld pool m (held.Fields b) = IsWellFormed pool m (body_view b)
