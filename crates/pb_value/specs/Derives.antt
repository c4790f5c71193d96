-- Which bytes are the text of a value.
use Rattle.std.specs.Prelude.{◌≡◌, ◌≤◌, ℕ, List, length}
use Rattle.pb_wire.specs.Record.{Record}
use Rattle.pb_wire.specs.Spell.{AreRecords}
use Rattle.pb_wire.specs.Sound.{AllSound}
use Rattle.pb_wire.specs.Limits.{Bounds}
use Rattle.pb_schema.specs.Types.{Types}
use Rattle.pb_schema.specs.Context.{a_message, schema_of}
use Rattle.pb_value.specs.Data.{Message}
use Rattle.pb_value.specs.Value.{value}

-- b spells records that are sound for the type within a depth, and v is their value
pub record Derives (pool : Types) (m depth : ℕ) (b : List ℕ) (v : Message) : Type 0 where
  pub records : List Record
  pub spelled : AreRecords records b
  pub sound : AllSound (schema_of pool) (a_message m) depth records
  pub valued : v ≡ value pool m records

-- b is a text of v within the limits
pub record Text (pool : Types) (m : ℕ) (limits : Bounds) (b : List ℕ) (v : Message) : Type 0 where
  pub size : length b ≤ limits.bytes
  pub derives : Derives pool m limits.depth b v
