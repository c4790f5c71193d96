-- What is answered of two messages that handles hold, and of bytes that go onto one.
use Rattle.std.specs.Prelude.{◌≡◌, ◌⊎◌, ◌≤◌, ◌^◌, ℕ, List, length, Option, Some}
use Rattle.pb_wire.specs.Fault.{Fault}
use Rattle.pb_wire.specs.Limits.{Bounds}
use Rattle.pb_value.specs.Data.{Message}
use Rattle.pb_value.specs.Dynamic.{Dynamic}
use Rattle.pb_encode.specs.Encoding.{bytes_of}
use Rattle.pb_decode.specs.Onto.{TextOnto}
use Rattle.pb_decode.specs.Push.{IsFaultOf}

-- 1 where it is so, and else 0
abbrev pub Marks : ℕ → Type 0 → Type 0
Marks n P = ((n ≡ 1) × P) ⊎ ((n ≡ 0) × ¬ P)

-- a message is held that has more canonical bytes than a length may say
abbrev pub IsTooLargeIn : Option Dynamic → Type 0
IsTooLargeIn held = (m : Dynamic) × (held ≡ Some m) × (2 ^ 31 ≤ length (bytes_of m))

-- this is the message, with the bytes decoded onto it
abbrev pub IsOnto : Bounds → List ℕ → Dynamic → Dynamic → Type 0
IsOnto limits bytes m n = (w : Message) × TextOnto m limits bytes w × (n ≡ record m { body = w })

-- the bytes have this fault, by the type of the message
abbrev pub IsFaultOn : Bounds → List ℕ → Dynamic → Fault → Type 0
IsFaultOn limits bytes m f = IsFaultOf m.pool m.kind limits bytes f
