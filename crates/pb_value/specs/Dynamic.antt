-- A message beside its pool and its type.
use Rattle.std.specs.Prelude.{◌≡◌, ℕ, []}
use Rattle.pb_schema.specs.Types.{Types}
use Rattle.pb_value.specs.Data.{Fields, Message, body, fields_of, unknown_of}

pub record Dynamic : Type 0 where
  pub pool : Types
  -- the index of its type
  pub kind : ℕ
  pub body : Message

-- the message with its fields changed so
abbrev pub with_changed : Dynamic → (Fields → Fields) → Dynamic
with_changed v change = record v { body = body (change (fields_of v.body)) (unknown_of v.body) }

-- the message without its unknown records
abbrev pub without_unknown : Dynamic → Dynamic
without_unknown v = record v { body = body (fields_of v.body) [] }

-- two messages of one type, of pools that hold the same
pub record IsSameType (v w : Dynamic) : Type 0 where
  pub pool : v.pool ≡ w.pool
  pub kind : v.kind ≡ w.kind
