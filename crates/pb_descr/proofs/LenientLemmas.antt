-- Why sets are not read leniently.
use Rattle.std.proofs.Common.{◌≡◌, ℕ, List}
use Rattle.pb_wire.specs.Limits.{full}
use Rattle.pb_value.specs.Data.{Message}
use Rattle.pb_descr_message.specs.declared.error.DescrError.{DescrError}
use Rattle.pb_descr_message.specs.declared.error.DescrError.TheVariants.{Fault, Decl, Memory}
use Rattle.pb_descr_message.specs.Sets.{IsSetText, IsUnread}
use Rattle.pb_descr_message.specs.Lenient.{IsUnreadLeniently}

-- bytes that are refused before any set is judged
pub unread : (b : List ℕ) (e : DescrError) → IsUnread full b e → ((set : Message) → IsSetText full b set → e ≡ Memory) → IsUnreadLeniently full b e
unread b (Fault byte path cause) h only = h
unread b (Decl file cause) h only = absurd (let e : Decl file cause ≡ Memory = only h.0 h.1 in cc)
unread b Memory h only = tt
