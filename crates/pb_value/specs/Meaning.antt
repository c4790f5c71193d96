-- What records mean is well formed: the value of records in range, where it nests at most 100 deep.
use Rattle.std.specs.Prelude.{◌≤◌, ℕ, List}
use Rattle.pb_wire.specs.Record.{Record}
use Rattle.pb_wire.specs.Ranges.{AreBytes, AreInRange}
use Rattle.pb_wire.specs.Writable.{AreWritable}
use Rattle.pb_wire.specs.Sound.{AllSound}
use Rattle.pb_schema.specs.Types.{Types}
use Rattle.pb_schema.specs.Context.{a_message, schema_of}
use Rattle.pb_value.specs.Data.{Message}
use Rattle.pb_value.specs.Value.{value}
use Rattle.pb_value.specs.Derives.{Derives}
use Rattle.pb_value.specs.WellFormed.{IsWellFormed}

-- records that an encoding of a message type can have, within a depth: their numbers, payloads and lengths are in range, and they are sound for
-- the type
pub record AreSoundInRange (pool : Types) (m depth : ℕ) (rs : List Record) : Type 0 where
  pub in_range : AreInRange rs
  pub writable : AreWritable rs
  pub sound : AllSound (schema_of pool) (a_message m) depth rs

-- the value of such records is well formed, where the depth is at most 100
abbrev pub ValueIsWellFormed : Types → Type 0
ValueIsWellFormed pool = (m depth : ℕ) (rs : List Record) → depth ≤ 100 → AreSoundInRange pool m depth rs → IsWellFormed pool m (value pool m rs)

-- so is every value that derives from bytes
abbrev pub DerivedIsWellFormed : Types → Type 0
DerivedIsWellFormed pool = (m depth : ℕ) (b : List ℕ) (v : Message) → depth ≤ 100 → AreBytes b → Derives pool m depth b v → IsWellFormed pool m v
