-- What holds records and how they are read, as the code has it.
use Rattle.std.specs.Prelude.{ℕ, ◌<◌, length}
use Rattle.pb_wire.specs.Schema as wire
use Rattle.pb_wire.specs.Schema.{a_varint, four_bytes, eight_bytes}
use Rattle.pb_schema.specs.declared.types.Kind.{Kind}
use Rattle.pb_schema.specs.Types.{Types}
use Rattle.pb_schema.specs.Rules.{NamesType, IsPool}
use Rattle.pb_schema.specs.Context as schema
use Rattle.pb_validate.specs.declared.context.Context.{Context}
use Rattle.pb_validate.specs.declared.context.Context.TheVariants as context
use Rattle.pb_validate.specs.declared.context.Element.{Element}
use Rattle.pb_validate.specs.declared.context.Element.TheVariants as element
use Rattle.pb_validate.specs.declared.context.Reading.{Reading}
use Rattle.pb_validate.specs.declared.context.Reading.TheVariants as reading

abbrev pub context_view : Context → schema.Context
context_view (context.Message m) = schema.a_message m.0
context_view (context.Entry key value) = schema.an_entry key value
context_view context.UnknownGroup = schema.unknown_group

abbrev pub element_view : Element → wire.Element
element_view element.Varint = a_varint
element_view element.FourBytes = four_bytes
element_view element.EightBytes = eight_bytes

abbrev pub reading_view : Reading → wire.Reading schema.Context
reading_view reading.Unread = wire.unread
reading_view reading.Text = wire.text
reading_view (reading.Message c) = wire.message (context_view c)
reading_view (reading.SameLevel c) = wire.same_level (context_view c)
reading_view (reading.Packed e) = wire.packed (element_view e)

-- the kind names a type of the pool, if it names one
abbrev pub KindIn : Types → Kind → Type 0
KindIn pool k = NamesType (length pool.messages) (length pool.enums) k

-- a context of the pool's types
abbrev pub IsIn : Types → schema.Context → Type 0
IsIn pool (schema.a_message m) = m < length pool.messages
IsIn pool (schema.an_entry key value) = KindIn pool key × KindIn pool value
IsIn pool schema.unknown_group = Unit {0}

-- an entry is read before the message that is its value, at the same level
abbrev pub rank : schema.Context → ℕ
rank (schema.a_message m) = 0
rank (schema.an_entry key value) = 1
rank schema.unknown_group = 0

-- what a record in a context opens is of the pool's types; at the same level it is of a lower rank
abbrev pub IsReadingIn : Types → schema.Context → wire.Reading schema.Context → Type 0
IsReadingIn pool c wire.unread = Unit {0}
IsReadingIn pool c wire.text = Unit {0}
IsReadingIn pool c (wire.message d) = IsIn pool d
IsReadingIn pool c (wire.same_level d) = IsIn pool d × (rank d < rank c)
IsReadingIn pool c (wire.packed e) = Unit {0}

-- records of a context can be read: the pool's rules hold, and the context is of its types
pub record CanRead (pool : Types) (c : schema.Context) : Type 0 where
  pub rules : IsPool pool
  pub of_pool : IsIn pool c
