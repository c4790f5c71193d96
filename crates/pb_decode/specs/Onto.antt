-- An input that goes onto a message.
use Rattle.std.specs.Prelude.{ℕ, ◌≤◌, List, length}
use Rattle.pb_wire.specs.Limits.{Bounds}
use Rattle.pb_schema.specs.Types.{Types}
use Rattle.pb_value.specs.Data.{Message}
use Rattle.pb_value.specs.Canon.{canon_bytes}
use Rattle.pb_value.specs.Derives.{Derives}
use Rattle.pb_value.specs.Dynamic.{Dynamic}
use Rattle.pb_value.specs.Joining.{IsOnto}

-- b is an encoding within the limits, whose records read onto v give w
pub record IsTextOnto (pool : Types) (m : ℕ) (limits : Bounds) (v : Message) (b : List ℕ) (w : Message) : Type 0 where
  pub size : length b ≤ limits.bytes
  pub onto : IsOnto pool m limits.depth v b w

-- the same of a message that is given
abbrev pub TextOnto : Dynamic → Bounds → List ℕ → Message → Type 0
TextOnto d limits b w = IsTextOnto d.pool d.kind limits d.body b w

-- b derives v by its type
abbrev pub DerivesFor : Dynamic → Bounds → List ℕ → Message → Type 0
DerivesFor d limits b v = Derives d.pool d.kind limits.depth b v

-- its canonical bytes
abbrev pub canonical : Dynamic → List ℕ
canonical d = canon_bytes d.pool d.kind d.body
