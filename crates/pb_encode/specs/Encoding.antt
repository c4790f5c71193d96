-- The canonical bytes of a message, and what a refused encoding has done.
use Rattle.std.specs.Prelude.{◌≡◌, ◌≢◌, ◌≤◌, ◌<◌, ◌^◌, ⊤, ℕ, List, Option, length, take}
use Rattle.std.specs.Io.KnownBytes.{Appends}
use Rattle.pb_value.specs.Dynamic.{Dynamic}
use Rattle.pb_value.specs.Canon.{canon_bytes}
use Rattle.pb_encode.specs.declared.error.EncodeError.{EncodeError}
use Rattle.pb_encode.specs.declared.error.EncodeError.TheVariants.{TooLarge, Memory, Device}

-- the canonical bytes of a message beside its pool and type
abbrev pub bytes_of : Dynamic → List ℕ
bytes_of m = canon_bytes m.pool m.kind m.body

-- without a device: there is no memory, or the bytes pass 2^31 - 1
abbrev pub IsRefused : List ℕ → EncodeError → Type 0
IsRefused bytes TooLarge = 2 ^ 31 ≤ length bytes
IsRefused bytes Memory = ⊤
IsRefused bytes (Device n) = ⊥

-- the device failed, and took just the first n of the bytes, which are not all
abbrev pub IsCut : {D : Type 0} → (D → Option (List ℕ)) → (D → ℕ) → D → D → List ℕ → EncodeError → Type 0
IsCut written failures old new bytes TooLarge = ⊥
IsCut written failures old new bytes Memory = ⊥
IsCut written failures old new bytes (Device n) = (failures new ≢ failures old) × (n < length bytes) × Appends (written old) (written new) (take n bytes)

-- the device is as before, and the bytes are too many or there was no memory; or they are not too many, and the device failed
abbrev pub IsUnsent : {D : Type 0} → (D → Option (List ℕ)) → (D → ℕ) → D → D → List ℕ → EncodeError → Type 0
IsUnsent written failures old new bytes TooLarge = (old ≡ new) × (2 ^ 31 ≤ length bytes)
IsUnsent written failures old new bytes Memory = old ≡ new
IsUnsent written failures old new bytes (Device n) = (length bytes < 2 ^ 31) × IsCut written failures old new bytes (Device n)
