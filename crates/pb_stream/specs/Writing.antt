-- The frame of a text, and what a refused writing of it has done.
use Rattle.std.specs.Prelude.{◌≡◌, ◌<◌, ◌≤◌, ◌^◌, ℕ, List, ◌++◌, length, Option}
use Rattle.pb_wire.specs.Varint.{shortest}
use Rattle.pb_wire.specs.Limits.{full}
use Rattle.pb_schema.specs.Types.{Types}
use Rattle.pb_value.specs.Data.{Message}
use Rattle.pb_value.specs.Canon.{canon_bytes}
use Rattle.pb_value.specs.WellFormed.{IsWellFormed}
use Rattle.pb_encode.specs.Encoding.{IsCut}
use Rattle.pb_encode.specs.declared.error.EncodeError.{EncodeError}
use Rattle.pb_encode.specs.declared.error.EncodeError.TheVariants.{TooLarge, Memory, Device}
use Rattle.pb_stream.specs.Frame.{Frame}

-- the shortest varint of the text's length, and then the text
abbrev pub frame_of : List ℕ → List ℕ
frame_of text = shortest (length text) ++ text

-- the device is as before, and the text is too long or there was no memory; or it is not too long, and the device failed and took just the first
-- n bytes of the frame
abbrev pub IsUnsent : {D : Type 0} → (D → Option (List ℕ)) → (D → ℕ) → D → D → List ℕ → EncodeError → Type 0
IsUnsent written failures old new text TooLarge = (old ≡ new) × (2 ^ 31 ≤ length text)
IsUnsent written failures old new text Memory = old ≡ new
IsUnsent written failures old new text (Device n) = (length text < 2 ^ 31) × IsCut written failures old new (frame_of text) (Device n)

-- the frame of a message's canonical bytes begins every input that it begins, as a frame of that message
abbrev pub WrittenIsFrame : Types → Type 0
WrittenIsFrame pool =
    (m : ℕ) (v : Message) (rest : List ℕ) → IsWellFormed pool m v → length (canon_bytes pool m v) < 2 ^ 31
    → Frame pool m full (frame_of (canon_bytes pool m v) ++ rest) v rest
