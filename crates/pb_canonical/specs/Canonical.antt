-- Canonical encodings: fields by rising number, none with a default where presence is implicit, at most one member of each oneof; map entries by
-- rising key, each with its key and its value; lists packed as declared; the shortest varints; unknown records last (encoding guide, "Field Order",
-- "Packed Repeated Fields", "Maps", "Oneofs").
use Rattle.std.specs.Prelude.{◌≡◌, ℕ, ◌<◌, ◌^◌, List, length}
use Rattle.pb_schema.specs.Types.{Types}
use Rattle.pb_value.specs.Data.{Message}
use Rattle.pb_value.specs.Canon.{canon_bytes}
use Rattle.pb_value.specs.WellFormed.{IsWellFormed}

-- The bytes are the canonical form of a well-formed message of the type, and no more than the wire can hold. That they are an encoding of that
-- message and of no other is the round trip (`CanonIsText`, `CanonIsTextOfOne` of pb_value).
pub record IsCanonical (pool : Types) (m : ℕ) (b : List ℕ) : Type 0 where
  pub message : Message
  pub well_formed : IsWellFormed pool m message
  pub written : b ≡ canon_bytes pool m message
  pub small : length b < 2 ^ 31
