-- What is written is read back: the canonical form of a well-formed message gives that message and no other.
use Rattle.std.specs.Prelude.{◌≡◌, ◌<◌, ◌^◌, ℕ, length}
use Rattle.pb_wire.specs.Limits.{full}
use Rattle.pb_schema.specs.Types.{Types}
use Rattle.pb_value.specs.Data.{Message}
use Rattle.pb_value.specs.Value.{value}
use Rattle.pb_value.specs.Derives.{Text}
use Rattle.pb_value.specs.Canon.{canon, canon_bytes}
use Rattle.pb_value.specs.WellFormed.{IsWellFormed}

-- the canonical bytes, where the wire can hold them, are a text of the message within the greatest limits
abbrev pub CanonIsText : Types → Type 0
CanonIsText pool = (m : ℕ) (v : Message) → IsWellFormed pool m v → length (canon_bytes pool m v) < 2 ^ 31 → Text pool m full (canon_bytes pool m v) v

-- and of no other
abbrev pub CanonIsTextOfOne : Types → Type 0
CanonIsTextOfOne pool =
    (m : ℕ) (v w : Message) → IsWellFormed pool m v → length (canon_bytes pool m v) < 2 ^ 31 → Text pool m full (canon_bytes pool m v) w → w ≡ v

-- the canonical records have the message as their value, whatever their length
abbrev pub CanonHasValue : Types → Type 0
CanonHasValue pool = (m : ℕ) (v : Message) → IsWellFormed pool m v → value pool m (canon pool m v) ≡ v
