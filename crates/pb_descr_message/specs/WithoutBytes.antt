-- The canonical bytes of a set without what lenient reading leaves out.
use Rattle.std.specs.Prelude.{◌≡◌, ◌<◌, ◌^◌, ℕ, List, length}
use Rattle.pb_wire.specs.Limits.{full}
use Rattle.pb_value.specs.Data.{Message}
use Rattle.pb_value.specs.Canon.{canon_bytes}
use Rattle.pb_descr_message.specs.Pool.{the_set, descriptor_types}
use Rattle.pb_descr_message.specs.Sets.{IsSetText}
use Rattle.pb_descr_message.specs.Without.{without_parts}

-- the second bytes are those of the set that the first encode, without its parts, and the wire can hold them
pub record AreWithoutParts (b without : List ℕ) : Type 0 where
  pub set : Message
  pub text : IsSetText full b set
  pub canonical : without ≡ canon_bytes descriptor_types the_set (without_parts set)
  pub short : length without < 2 ^ 31
