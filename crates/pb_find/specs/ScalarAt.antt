-- The scalar that a message has at a path of field numbers: each number but the last leads to a message as `message` finds it, and the last names
-- a field of one scalar as `get` has it.
use Rattle.std.specs.Prelude.{◌≡◌, ℕ, List, [], ◌∷◌, Option, Some, None, option_and_then}
use Rattle.pb_wire.specs.Limits.{Bounds}
use Rattle.pb_schema.specs.Types.{Types}
use Rattle.pb_schema.specs.Scalar.{Scalar}
use Rattle.pb_value.specs.Data.{scalar, message, Holding, one, list, map, Message, fields_of, get_field}
use Rattle.pb_value.specs.Dynamic.{Dynamic}
use Rattle.pb_value.specs.Inner.{only_datum, inner_message}
use Rattle.pb_value.specs.Derives.{Text}

-- the scalar of a content that is one
abbrev pub only_scalar : Holding → Option Scalar
only_scalar (one (scalar x)) = Some x
only_scalar (one (message m)) = None
only_scalar (list ds) = None
only_scalar (map es) = None

abbrev pub scalar_at : List ℕ → Dynamic → Option Scalar
scalar_at [] v = None
scalar_at (n ∷ []) v = option_and_then only_scalar (get_field n (fields_of v.body))
scalar_at (n ∷ k ∷ path) v = option_and_then (λ w. scalar_at (k ∷ path) w) (inner_message only_datum n v)

-- a message of a type, of this value
abbrev pub message_of : Types → ℕ → Message → Dynamic
message_of pool m v = record { pool = pool; kind = m; body = v }

-- b is an encoding of a message that has x at the path
abbrev pub IsFound : Types → ℕ → Bounds → List ℕ → List ℕ → Option Scalar → Type 0
IsFound pool m limits b path x = (v : Message) × Text pool m limits b v × (x ≡ scalar_at path (message_of pool m v))
