-- Worked rows of the definitions.
use Rattle.std.proofs.Common.{◌≡◌, ℕ, List, [], ◌∷◌, pos, negsuc, true, false, Some, None, refl, map}
use Rattle.pb_wire.specs.Schema as wire
use Rattle.pb_wire.specs.Record.{Payload, varint, len, group, no_more, more, fixed32, Record}
use Rattle.pb_schema.specs.declared.types.Kind.TheVariants as kind
use Rattle.pb_schema.specs.declared.types.Shape.TheVariants as shape
use Rattle.pb_schema.specs.Scalar.{int32, uint32, boolean, float, enum, text, bytes, is_default}
use Rattle.pb_schema.specs.Kinds.{read, written}
use Rattle.pb_schema.specs.Packed.{elements}
use Rattle.pb_schema.specs.Fits.{fits}
use Rattle.pb_schema.specs.Closed.{closed_shaped, declares, known, unknown}
use Rattle.pb_schema.specs.Context.{Context, a_message, an_entry, unknown_group, schema_of}
use Rattle.pb_schema.specs.Types.{message_fields}
use Rattle.pb_schema.proofs.Samples.{pool_t, e_field, v_field, the_message, pool_q}

-- fe ff ff ff 0f is the int32 -2, which is written as 2 ^ 64 - 2, in ten bytes
minus_two-read : read kind.Int32 (varint 0xfffffffe) ≡ Some (int32 (negsuc 1))
minus_two-read = refl

minus_two-written : written kind.Int32 (int32 (negsuc 1)) ≡ varint 18446744073709551614
minus_two-written = refl

-- the low 32 bits of ff ff ff ff 1f, and then ZigZag undone
sint32-read : read kind.Sint32 (varint 0x1ffffffff) ≡ Some (int32 (negsuc 2147483647))
sint32-read = refl

sint32-written : written kind.Sint32 (int32 (negsuc 2147483647)) ≡ varint 0xffffffff
sint32-written = refl

-- true for every number but 0
bool-read : read kind.Bool (varint 0x100000000) ≡ Some (boolean true)
bool-read = refl

enum-read : read (kind.Enum (record { 0 = 0 })) (varint 0xffffffff) ≡ Some (enum (negsuc 0))
enum-read = refl

-- a wire type that is not the kind's
fixed32-of-int32 : read kind.Int32 (fixed32 5) ≡ None
fixed32-of-int32 = refl

-- 03 8e 02 9e a7 05 in a packed list, and 01 as a record of its own
e-packed : elements kind.Int32 (len (0x03 ∷ 0x8e ∷ 0x02 ∷ 0x9e ∷ 0xa7 ∷ 0x05 ∷ [])) ≡ int32 (pos 3) ∷ int32 (pos 270) ∷ int32 (pos 86942) ∷ []
e-packed = refl

e-unpacked : elements kind.Int32 (varint 1) ≡ int32 (pos 1) ∷ []
e-unpacked = refl

v-packed : elements kind.Sint32 (len (0x01 ∷ 0x02 ∷ [])) ≡ int32 (negsuc 0) ∷ int32 (pos 1) ∷ []
v-packed = refl

h-packed : elements kind.Fixed32 (len (0x01 ∷ 0x00 ∷ 0x00 ∷ 0x80 ∷ 0x02 ∷ 0x00 ∷ 0x00 ∷ 0x00 ∷ [])) ≡ uint32 0x80000001 ∷ uint32 2 ∷ []
h-packed = refl

-- a string is one element
u-element : elements kind.Text (len (0x78 ∷ [])) ≡ text (0x78 ∷ []) ∷ []
u-element = refl

-- packed and unpacked records fit a list, also one that is written unpacked; four bytes do not
e-fits : map (fits e_field) (record { number = 6; payload = varint 1 } ∷ record { number = 6; payload = len [] } ∷ record { number = 6; payload = fixed32 1 } ∷ []) ≡ true ∷ true ∷ false ∷ []
e-fits = refl

v-fits : fits v_field (record { number = 14; payload = len [] }) ≡ true
v-fits = refl

-- 0a 01 41: a known number of a wire type that does not fit is unknown, and so is a group
unknown-records : unknown pool_t (message_fields pool_t 0) (record { number = 1; payload = len (0x41 ∷ []) } ∷ record { number = 1; payload = varint 5 } ∷ record { number = 20; payload = group no_more } ∷ record { number = 9; payload = varint 1 } ∷ []) ≡ record { number = 1; payload = len (0x41 ∷ []) } ∷ record { number = 20; payload = group no_more } ∷ record { number = 9; payload = varint 1 } ∷ []
unknown-records = refl

abbrev reading : Context → ℕ → wire.Reading Context
reading = (schema_of pool_t).reading

-- an L record that does not fit is not looked into
a-reading : reading (a_message 0) 1 ≡ wire.unread
a-reading = refl

b-reading : reading (a_message 0) 2 ≡ wire.text
b-reading = refl

c-reading : reading (a_message 0) 3 ≡ wire.message (a_message 0)
c-reading = refl

e-reading : reading (a_message 0) 6 ≡ wire.packed wire.a_varint
e-reading = refl

-- an entry is one level down, and its message value at the entry's level
n-reading : reading (a_message 0) 12 ≡ wire.message (an_entry kind.Uint32 the_message)
n-reading = refl

n-value-reading : reading (an_entry kind.Uint32 the_message) 2 ≡ wire.same_level (a_message 0)
n-value-reading = refl

m-key-reading : reading (an_entry kind.Text kind.Int32) 1 ≡ wire.text
m-key-reading = refl

-- no number 3 in an entry, and nothing known in a group
entry-unknown : reading (an_entry kind.Text kind.Int32) 3 ≡ wire.unread
entry-unknown = refl

group-unknown : reading unknown_group 2 ≡ wire.unread
group-unknown = refl

-- GROUPS AND CLOSED ENUMS

abbrev q_reading : Context → ℕ → wire.Reading Context
q_reading = (schema_of pool_q).reading

abbrev q_group : Context → ℕ → Context
q_group = (schema_of pool_q).group_context

-- a group of a field is a message of its type, also in a group; an entry and a group of no field are not looked into
g-group : q_group (a_message 0) 3 ≡ a_message 1
g-group = refl

h-group : q_group (a_message 0) 6 ≡ a_message 2
h-group = refl

group-in-group : q_group (a_message 2) 3 ≡ a_message 1
group-in-group = refl

no-group : map (q_group (a_message 0)) (1 ∷ 4 ∷ 7 ∷ 9 ∷ []) ≡ unknown_group ∷ unknown_group ∷ unknown_group ∷ unknown_group ∷ []
no-group = refl

no-group-in-entry : q_group (an_entry kind.Text the_message) 2 ≡ unknown_group
no-group-in-entry = refl

no-group-in-unknown : q_group unknown_group 3 ≡ unknown_group
no-group-in-unknown = refl

-- bytes at a group's field are not looked into
g-reading : q_reading (a_message 0) 3 ≡ wire.unread
g-reading = refl

l-reading : q_reading (a_message 0) 5 ≡ wire.packed wire.a_varint
l-reading = refl

declared-numbers : map (λ n. declares pool_q 0 (pos n)) (0 ∷ 1 ∷ 2 ∷ 3 ∷ 4294967297 ∷ []) ≡ false ∷ true ∷ true ∷ false ∷ false ∷ []
declared-numbers = refl

no-enum : declares pool_q 1 (pos 1) ≡ false
no-enum = refl

abbrev at : ℕ → Payload → Record
at n p = record { number = n; payload = p }

abbrev q_records : List Record
q_records =
    at 4 (varint 7) ∷ at 4 (varint 4294967297) ∷ at 5 (len (0x01 ∷ 0x07 ∷ 0x02 ∷ [])) ∷ at 3 (group (more 1 (varint 5) no_more)) ∷ at 4 (varint 4294967303)
    ∷ at 3 (len (0x08 ∷ 0x05 ∷ [])) ∷ at 5 (varint 9) ∷ at 5 (varint 1) ∷ []

-- the low 32 bits of a number are asked for, and all 64 are kept; an element of a packed list is a record in its place
known-records :
    known pool_q (message_fields pool_q 0) q_records
    ≡ at 4 (varint 4294967297) ∷ at 5 (varint 1) ∷ at 5 (varint 2) ∷ at 3 (group (more 1 (varint 5) no_more)) ∷ at 5 (varint 1) ∷ []
known-records = refl

undeclared-records :
    unknown pool_q (message_fields pool_q 0) q_records
    ≡ at 4 (varint 7) ∷ at 5 (varint 7) ∷ at 4 (varint 4294967303) ∷ at 3 (len (0x08 ∷ 0x05 ∷ [])) ∷ at 5 (varint 9) ∷ []
undeclared-records = refl

-- the entries of a map are no numbers, also where its values are those of a closed enum
closed-in-a-list : closed_shaped (shape.List true) (kind.ClosedEnum (record { 0 = 2 })) ≡ Some 2
closed-in-a-list = refl

closed-in-a-map : closed_shaped (shape.Map kind.Int32) (kind.ClosedEnum (record { 0 = 2 })) ≡ None
closed-in-a-map = refl

-- each other shape has the values of its kind, a member of a oneof too
closed-in-a-oneof : closed_shaped (shape.OneofMember 0) (kind.ClosedEnum (record { 0 = 2 })) ≡ Some 2
closed-in-a-oneof = refl

closed-alone : map (λ s. closed_shaped s (kind.ClosedEnum (record { 0 = 2 }))) (shape.Explicit ∷ shape.Implicit ∷ []) ≡ Some 2 ∷ Some 2 ∷ []
closed-alone = refl

open-in-a-oneof : closed_shaped (shape.OneofMember 0) (kind.Enum (record { 0 = 2 })) ≡ None
open-in-a-oneof = refl

open-alone : closed_shaped shape.Explicit (kind.Enum (record { 0 = 2 })) ≡ None
open-alone = refl

-- what an absent field has: an empty string and +0, whose bits are all 0
defaults : map is_default (text [] ∷ bytes [] ∷ int32 (pos 0) ∷ boolean false ∷ float 0 ∷ []) ≡ true ∷ true ∷ true ∷ true ∷ true ∷ []
defaults = refl

no-defaults : map is_default (text (0x00 ∷ []) ∷ bytes (0x00 ∷ []) ∷ int32 (negsuc 0) ∷ boolean true ∷ float 0x80000000 ∷ []) ≡ false ∷ false ∷ false ∷ false ∷ false ∷ []
no-defaults = refl
