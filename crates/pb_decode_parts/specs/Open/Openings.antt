-- What opening takes out of the part that holds it.
use Rattle.std.specs.Prelude.{ℕ, ◌-◌, if◌then◌else◌, List, [], ◌∷◌, Option, Some, None}
use Rattle.pb_value.specs.Data.{Datum, scalar, message, Holding, one, list, map, Message, empty, fields_of, get_field, drop_field}
use Rattle.pb_value.specs.Change.{with_fields}
use Rattle.pb_decode_parts.specs.declared.open.part.Slot.{Slot}
use Rattle.pb_decode_parts.specs.declared.open.part.Slot.TheVariants as slot
use Rattle.pb_decode_parts.specs.Open.Parents.{Part, message_part, entry_part, group_part, Parent}

-- the message that a value is; no value, or another one, goes on from the empty message
abbrev pub message_given : Option Datum → Message
message_given (Some (message w)) = w
message_given (Some (scalar x)) = empty
message_given None = empty

-- the message that a field of one value holds
abbrev pub message_held : Option Holding → Message
message_held (Some (one d)) = message_given (Some d)
message_held (Some (list ds)) = empty
message_held (Some (map es)) = empty
message_held None = empty

-- what a message that is opened for a slot of a part goes on from: what the slot holds. A list takes a new message.
abbrev pub taken_message : Slot → Part → Message
taken_message (slot.One s n) (message_part m v) = message_held (get_field n (fields_of v))
taken_message (slot.One s n) (entry_part key k x d) = empty
taken_message (slot.One s n) (group_part us) = empty
taken_message slot.Entry (message_part m v) = empty
taken_message slot.Entry (entry_part key k x d) = message_given d
taken_message slot.Entry (group_part us) = empty
taken_message (slot.List n) p = empty
taken_message (slot.Map n) p = empty
taken_message (slot.Unknown n) p = empty

-- the part without it
abbrev pub without_message : Slot → Part → Part
without_message (slot.One s n) (message_part m v) = message_part m (with_fields v (drop_field n (fields_of v)))
without_message (slot.One s n) (entry_part key k x d) = entry_part key k x d
without_message (slot.One s n) (group_part us) = group_part us
without_message slot.Entry (message_part m v) = message_part m v
without_message slot.Entry (entry_part key k x d) = entry_part key k x None
without_message slot.Entry (group_part us) = group_part us
without_message (slot.List n) p = p
without_message (slot.Map n) p = p
without_message (slot.Unknown n) p = p

-- how many levels are left in a message that is opened for a slot: that of an entry is at the level of the entry
abbrev pub depth_left_in : Slot → ℕ → ℕ
depth_left_in slot.Entry depth_left = depth_left
depth_left_in (slot.One s n) depth_left = depth_left - 1
depth_left_in (slot.List n) depth_left = depth_left - 1
depth_left_in (slot.Map n) depth_left = depth_left - 1
depth_left_in (slot.Unknown n) depth_left = depth_left - 1

-- the number of the group that is open innermost, if an end tag ends the open part there
abbrev pub innermost_group : List Parent → Option ℕ
innermost_group [] = None
innermost_group (parent ∷ parents) = if parent.group then Some parent.number else None
