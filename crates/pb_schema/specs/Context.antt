-- What a pool says of records inside messages, map entries and groups: the instance for the rules of soundness and of faults.
use Rattle.std.specs.Prelude.{ℕ, List, [], ◌∷◌, Bool, true, false, Option, Some, None}
use Rattle.pb_wire.specs.Schema as wire
use Rattle.pb_wire.specs.Schema.{Schema, Element, a_varint, four_bytes, eight_bytes, Reading}
use Rattle.pb_schema.specs.declared.types.Kind.{Kind}
use Rattle.pb_schema.specs.declared.types.Kind.TheVariants as kind
use Rattle.pb_schema.specs.declared.types.Shape.{Shape}
use Rattle.pb_schema.specs.declared.types.Shape.TheVariants as shape
use Rattle.pb_schema.specs.Types.{FieldView, Types, message_fields, field_numbered}
use Rattle.pb_schema.specs.Kinds.{is_group, message_of_kind}

-- what holds records: a message of a type, a map entry with these kinds of key and value, or a group that no schema knows
pub data Context : Type 0 where
  a_message : ℕ → Context
  an_entry : Kind → Kind → Context
  unknown_group : Context

-- the fields of a map entry
abbrev pub entry_field : ℕ → Kind → FieldView
entry_field n k = record { name = []; number = n; kind = k; shape = shape.Explicit }

abbrev pub key_field : Kind → FieldView
key_field k = entry_field 1 k

abbrev pub value_field : Kind → FieldView
value_field k = entry_field 2 k

abbrev pub fields_in : Types → Context → List FieldView
fields_in pool (a_message m) = message_fields pool m
fields_in pool (an_entry key value) = key_field key ∷ value_field value ∷ []
fields_in pool unknown_group = []

-- one element of a packed list of a kind; a kind that is in no packed list has none, and four bytes are used in its place
abbrev pub element_of : Kind → Element
element_of kind.Double = eight_bytes
element_of kind.Float = four_bytes
element_of kind.Int64 = a_varint
element_of kind.Uint64 = a_varint
element_of kind.Int32 = a_varint
element_of kind.Fixed64 = eight_bytes
element_of kind.Fixed32 = four_bytes
element_of kind.Bool = a_varint
element_of kind.Text = four_bytes
element_of kind.Bytes = four_bytes
element_of kind.Uint32 = a_varint
element_of kind.Sfixed32 = four_bytes
element_of kind.Sfixed64 = eight_bytes
element_of kind.Sint32 = a_varint
element_of kind.Sint64 = a_varint
element_of (kind.Enum _) = a_varint
element_of (kind.Message _) = four_bytes
element_of (kind.Group _) = four_bytes
element_of (kind.ClosedEnum _) = a_varint

-- a message value of a map entry is at the entry's level
abbrev pub message_in : Context → ℕ → Reading Context
message_in (an_entry key value) m = wire.same_level (a_message m)
message_in (a_message _) m = wire.message (a_message m)
message_in unknown_group m = wire.message (a_message m)

-- how an L record of a field is read: one that doesn't fit isn't looked into
abbrev pub read_singular : Context → Kind → Reading Context
read_singular c kind.Text = wire.text
read_singular c (kind.Message m) = message_in c m.0
read_singular c kind.Double = wire.unread
read_singular c kind.Float = wire.unread
read_singular c kind.Int64 = wire.unread
read_singular c kind.Uint64 = wire.unread
read_singular c kind.Int32 = wire.unread
read_singular c kind.Fixed64 = wire.unread
read_singular c kind.Fixed32 = wire.unread
read_singular c kind.Bool = wire.unread
read_singular c kind.Bytes = wire.unread
read_singular c kind.Uint32 = wire.unread
read_singular c kind.Sfixed32 = wire.unread
read_singular c kind.Sfixed64 = wire.unread
read_singular c kind.Sint32 = wire.unread
read_singular c kind.Sint64 = wire.unread
read_singular c (kind.Enum _) = wire.unread
read_singular c (kind.Group _) = wire.unread
read_singular c (kind.ClosedEnum _) = wire.unread

abbrev pub read_listed : Context → Kind → Reading Context
read_listed c kind.Text = wire.text
read_listed c kind.Bytes = wire.unread
read_listed c (kind.Message m) = message_in c m.0
read_listed c kind.Double = wire.packed (element_of kind.Double)
read_listed c kind.Float = wire.packed (element_of kind.Float)
read_listed c kind.Int64 = wire.packed (element_of kind.Int64)
read_listed c kind.Uint64 = wire.packed (element_of kind.Uint64)
read_listed c kind.Int32 = wire.packed (element_of kind.Int32)
read_listed c kind.Fixed64 = wire.packed (element_of kind.Fixed64)
read_listed c kind.Fixed32 = wire.packed (element_of kind.Fixed32)
read_listed c kind.Bool = wire.packed (element_of kind.Bool)
read_listed c kind.Uint32 = wire.packed (element_of kind.Uint32)
read_listed c kind.Sfixed32 = wire.packed (element_of kind.Sfixed32)
read_listed c kind.Sfixed64 = wire.packed (element_of kind.Sfixed64)
read_listed c kind.Sint32 = wire.packed (element_of kind.Sint32)
read_listed c kind.Sint64 = wire.packed (element_of kind.Sint64)
read_listed c (kind.Enum e) = wire.packed (element_of (kind.Enum e))
read_listed c (kind.Group _) = wire.unread
read_listed c (kind.ClosedEnum e) = wire.packed (element_of (kind.ClosedEnum e))

abbrev pub read_shaped : Context → Shape → Kind → Reading Context
read_shaped c (shape.Map key) k = wire.message (an_entry key k)
read_shaped c (shape.List _) k = read_listed c k
read_shaped c shape.Explicit k = read_singular c k
read_shaped c shape.Implicit k = read_singular c k
read_shaped c (shape.OneofMember _) k = read_singular c k

abbrev pub read_field : Context → Option FieldView → Reading Context
read_field c None = wire.unread
read_field c (Some f) = read_shaped c f.shape f.kind

-- what a group of a kind holds
abbrev pub group_of_kind : Kind → Context
group_of_kind k = in_group (is_group k) (message_of_kind k)
  where
    in_group : Bool → Option ℕ → Context
    in_group true (Some m) = a_message m
    in_group true None = unknown_group
    in_group false o = unknown_group

-- no group is an entry of a map
abbrev pub group_shaped : Shape → Kind → Context
group_shaped (shape.Map _) k = unknown_group
group_shaped (shape.List _) k = group_of_kind k
group_shaped shape.Explicit k = group_of_kind k
group_shaped shape.Implicit k = group_of_kind k
group_shaped (shape.OneofMember _) k = group_of_kind k

abbrev pub group_of_field : Option FieldView → Context
group_of_field None = unknown_group
group_of_field (Some f) = group_shaped f.shape f.kind

-- What a group of a number holds: in one that is a field a message of its type. Entries and groups that no schema knows have no such fields.
abbrev pub group_in : Types → Context → ℕ → Context
group_in pool (a_message m) n = group_of_field (field_numbered n (message_fields pool m))
group_in pool (an_entry key value) n = unknown_group
group_in pool unknown_group n = unknown_group

-- the rules of a pool
abbrev pub schema_of : Types → Schema
schema_of pool = record { Context = Context; reading = λ c n. read_field c (field_numbered n (fields_in pool c)); group_context = λ c n. group_in pool c n }
