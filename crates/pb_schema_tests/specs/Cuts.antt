-- A number at the front of a packed payload.
use Rattle.std.specs.Prelude.{◌≡◌, ◌↔◌, ◌<◌, length, ℕ, List, ◌∷◌}
use Rattle.pb_wire.specs.Record.{Payload, wire_type}
use Rattle.pb_wire.specs.Ranges.{IsInRange}
use Rattle.pb_wire.specs.Schema.{Element}
use Rattle.pb_wire.specs.Sound.{AreElements}
use Rattle.pb_schema.specs.Packed.{numbers_of}

-- s is whole elements and then rest: the first is this number, of this wire type
pub record Cuts (e : Element) (w : ℕ) (p : Payload) (s rest : List ℕ) : Type 0 where
  pub type : wire_type p ≡ w
  pub range : IsInRange p
  pub numbers : numbers_of w s ≡ p ∷ numbers_of w rest
  pub elements : AreElements e s ↔ AreElements e rest
  pub shorter : length rest < length s
