-- What a plan of a message has: its type is one of the pool, its canonical form fits the size limit, and the lengths in it are in a table.
use Rattle.std.specs.Prelude.{◌≡◌, ◌<◌, ◌^◌, ℕ, List, length}
use Rattle.pb_schema.specs.Types.{Types}
use Rattle.pb_value.specs.Data.{Message}
use Rattle.pb_value.specs.Canon.{canon_bytes}
use Rattle.pb_encode.specs.Sizes.{lengths_in_message}

pub record IsPlanned (pool : Types) (kind : ℕ) (message : Message) (table : List ℕ) (len : ℕ) : Type 0 where
  pub within : kind < length pool.messages
  pub exact : len ≡ length (canon_bytes pool kind message)
  pub fits : len < 2 ^ 31
  pub listed : table ≡ lengths_in_message pool kind message
