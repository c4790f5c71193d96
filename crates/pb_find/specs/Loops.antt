-- What private functions require, and the records of borrowed ones.
use Rattle.std.specs.Prelude.{◌<◌, ◌^◌, ℕ, List, [], ◌∷◌, length}
use Rattle.pb_wire.specs.Record.{Record, group_of}
use Rattle.pb_wire.specs.Record as wire
use Rattle.pb_wire.specs.RecordIter.{Seen, varint, fixed64, len, group, fixed32}
use Rattle.pb_wire.specs.Inside.{records_spelled}
use Rattle.pb_wire.specs.Spell.{AreRecords}
use Rattle.pb_wire.specs.Schema.{blank}
use Rattle.pb_wire.specs.Sound.{AllSound}

-- the payload of a borrowed one
abbrev pub payload_of : Seen → wire.Payload
payload_of (varint n) = wire.varint n
payload_of (fixed64 n) = wire.fixed64 n
payload_of (len s) = wire.len s
payload_of (group s) = wire.group (group_of (records_spelled s))
payload_of (fixed32 n) = wire.fixed32 n

abbrev pub record_of : ℕ × Seen → Record
record_of x = record { number = x.0; payload = payload_of x.1 }

-- b encodes one record
pub record IsOne (b : List ℕ) : Type 0 where
  pub only : Record
  pub size : length b < 2 ^ 31
  pub spelled : AreRecords (only ∷ []) b
  pub sound : AllSound blank tt 100 (only ∷ [])
