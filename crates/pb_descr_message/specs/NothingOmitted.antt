-- Sets of which lenient reading leaves nothing out.
use Rattle.std.specs.Prelude.{◌≡◌, ℕ, List, []}
use Rattle.pb_wire.specs.Limits.{full}
use Rattle.pb_value.specs.Data.{Message}
use Rattle.pb_descr_message.specs.Sets.{IsSetText}
use Rattle.pb_descr_message.specs.Omitted.{omitted_in}

-- bytes are the encoding of a set that has no part that lenient reading leaves out
abbrev pub HasNoSuchPart : List ℕ → Type 0
HasNoSuchPart b = (set : Message) → IsSetText full b set → omitted_in set ≡ []
