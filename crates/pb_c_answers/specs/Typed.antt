-- Messages of the types of a pool.
use Rattle.std.specs.Prelude.{◌≡◌, ◌<◌, ◌≤◌, ℕ, length, Option, Some}
use Rattle.pb_wire.specs.Fault.{Fault, fault}
use Rattle.pb_schema.specs.Types.{Types}
use Rattle.pb_decode.specs.declared.error.DecodeError.{DecodeError}
use Rattle.pb_decode.specs.declared.error.DecodeError.TheVariants as error

-- The pool that is held, if one is, has a message type of this number.
pub record HasType (held : Option Types) (m : ℕ) (pool : Types) : Type 0 where
  pub holds : held ≡ Some pool
  pub within : m < length pool.messages

-- a pool is held that has no message type of this number
abbrev pub LacksType : Option Types → ℕ → Type 0
LacksType held m = (pool : Types) × (held ≡ Some pool) × (length pool.messages ≤ m)

-- one fact of an error with a fault, another of one without
abbrev pub ByFault : DecodeError → (Fault → Type 0) → Type 0 → Type 0
ByFault (error.Fault byte path cause) P Q = P (fault byte path.items cause)
ByFault error.Memory P Q = Q
ByFault error.Device P Q = Q
ByFault error.Finished P Q = Q
