-- Bytes that are whole varints or whole records.
use Rattle.std.specs.Prelude.{ℕ, ◌-◌, ◌≤◌, List, take, Bool, nat_lt, slice_index}
use Rattle.pb_wire.specs.Record.{Record}
use Rattle.pb_wire.specs.Spell.{AreRecords}
use Rattle.pb_wire.specs.Schema.{Schema, a_varint}
use Rattle.pb_wire.specs.Sound.{AllSound, AreElements}

-- the byte at this index ends a varint
abbrev pub ends_varint : List ℕ → ℕ → Bool
ends_varint b i = nat_lt (slice_index b i) 128

-- before this index are whole varints, and then n bytes of one that goes on
pub record Begun (b : List ℕ) (at n : ℕ) : Type 0 where
  pub few : n ≤ 9
  pub there : n ≤ at
  pub whole : AreElements a_varint (take (at - n) b)

-- b is whole records, sound in a context with this many levels left
abbrev pub AreWhole : (S : Schema) → S.Context → ℕ → List ℕ → Type 0
AreWhole S c levels b = (rs : List Record) × AreRecords rs b × AllSound S c levels rs
