-- What closing a part asks of its parent.
use Rattle.std.specs.Prelude.{IsTrue, Option, unwrap_or}
use Rattle.pb_schema.specs.declared.types.Kind.{Kind}
use Rattle.pb_schema.specs.Scalar.{Scalar}
use Rattle.pb_schema.specs.Kinds.{default_of, is_key_kind}
use Rattle.pb_value.specs.Data.{fields_of, get_field}
use Rattle.pb_value.specs.Change.{entries_of, FitsKeys}
use Rattle.pb_decode_parts.specs.declared.open.part.Slot.{Slot}
use Rattle.pb_decode_parts.specs.declared.open.part.Slot.TheVariants as slot
use Rattle.pb_decode_parts.specs.Open.Parents.{Part, message_part, entry_part, group_part}

-- an entry with this key, or with none, can go into the slot: the keys that are in the map are of one kind with it
abbrev pub FitsSlot : Slot → Part → Kind → Option Scalar → Type 0
FitsSlot (slot.Map n) (message_part m v) key x = FitsKeys (unwrap_or x (default_of key)) (entries_of (get_field n (fields_of v)))
FitsSlot (slot.Map n) (entry_part k v y d) key x = Unit {0}
FitsSlot (slot.Map n) (group_part us) key x = Unit {0}
FitsSlot (slot.One s n) p key x = Unit {0}
FitsSlot (slot.List n) p key x = Unit {0}
FitsSlot slot.Entry p key x = Unit {0}
FitsSlot (slot.Unknown n) p key x = Unit {0}

-- a part that is whole can go into the slot: an entry has a key of a kind that keys have, for which there is a place
abbrev pub CanGoInto : Slot → Part → Part → Type 0
CanGoInto s p (message_part m v) = Unit {0}
CanGoInto s p (entry_part key k x d) = IsTrue (is_key_kind key) × FitsSlot s p key x
CanGoInto s p (group_part us) = Unit {0}
