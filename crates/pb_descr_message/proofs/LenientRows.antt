-- Worked rows of lenient reading, computed: messages without their parts, what is left out, and the causes of what stays.
use Rattle.std.proofs.Common.{◌≡◌, ℕ, ℤ, pos, List, [], ◌∷◌, true, false, refl}
use Rattle.std.specs.Prelude.{codes}
use Rattle.pb_descr_message.specs.declared.cause.DeclCause.TheVariants as cause
use Rattle.pb_descr_message.specs.declared.omitted.OmittedPart.TheVariants as part
use Rattle.pb_schema.specs.Scalar.{int32, boolean, text}
use Rattle.pb_value.specs.Data.{Datum, scalar, message, Datums, no_datums, datum, one, list, Fields, no_fields, field, Message, body}
use Rattle.pb_descr_message.specs.declared.cause.DeclCause.{DeclCause}
use Rattle.pb_descr_message.specs.Causes.{field_causes, set_causes}
use Rattle.pb_descr_message.specs.Without.{field_without, message_without, without_parts}
use Rattle.pb_descr_message.specs.Omitted.{omitted_in}

abbrev named : List ℕ → Fields → Datum
named name fs = message (body (field 1 (one (scalar (text name))) fs) [])

abbrev alone : Datum → Datums
alone d = datum d no_datums

abbrev number_at : ℕ → ℤ → Fields → Fields
number_at n z fs = field n (one (scalar (int32 z))) fs

abbrev text_at : ℕ → List ℕ → Fields → Fields
text_at n s fs = field n (one (scalar (text s))) fs

abbrev an_int : Fields
an_int = number_at 5 (pos 5) no_fields

abbrev set_of : Datum → Message
set_of d = body (field 1 (list (alone d)) no_fields) []

-- A FIELD

required_is_optional : field_without (named (codes "a") (number_at 4 (pos 2) an_int)) ≡ named (codes "a") an_int
required_is_optional = refl

repeated_stays : field_without (named (codes "a") (number_at 4 (pos 3) an_int)) ≡ named (codes "a") (number_at 4 (pos 3) an_int)
repeated_stays = refl

no_default : field_without (named (codes "a") (number_at 5 (pos 5) (text_at 7 (codes "1") no_fields))) ≡ named (codes "a") an_int
no_default = refl

-- A MESSAGE

abbrev nothing : Datum
nothing = message (body no_fields [])

no_extensions : message_without true (named (codes "M") (field 5 (list (alone nothing)) (field 6 (list (alone nothing)) no_fields))) ≡ named (codes "M") no_fields
no_extensions = refl

-- also in a message inside
nested : message_without true (named (codes "M") (field 3 (list (alone (named (codes "N") (field 5 (list (alone nothing)) no_fields)))) no_fields))
    ≡ named (codes "M") (field 3 (list (alone (named (codes "N") no_fields))) no_fields)
nested = refl

abbrev the_mark : Fields
the_mark = field 7 (one (message (body (field 7 (one (scalar (boolean true))) no_fields) []))) no_fields

abbrev entry_of : ℤ → Fields → Datum
entry_of code fs = named (codes "E") (field 2 (list (alone (named (codes "value") (number_at 3 (pos 2) (number_at 5 code no_fields))))) fs)

closed_map : message_without true (entry_of (pos 14) the_mark) ≡ entry_of (pos 14) no_fields
closed_map = refl

-- a map of a file of proto3 stays, and so does one of another type
open_map : message_without false (entry_of (pos 14) the_mark) ≡ entry_of (pos 14) the_mark
open_map = refl

other_map : message_without true (entry_of (pos 5) the_mark) ≡ entry_of (pos 5) the_mark
other_map = refl

-- a map whose values are no enum, in a message with a range and a required field
beside_a_map :
    message_without true (named (codes "M")
    (field 2 (list (alone (named (codes "a") (number_at 4 (pos 2) an_int)))) (field 3 (list (alone (entry_of (pos 5) the_mark))) (field 5 (list (alone nothing)) no_fields))))
    ≡ named (codes "M") (field 2 (list (alone (named (codes "a") an_int))) (field 3 (list (alone (entry_of (pos 5) the_mark))) no_fields))
beside_a_map = refl

-- a required group, and a required field with a default value in it
abbrev group_field : Fields → Datum
group_field fs = named (codes "g") fs

groups :
    message_without true (named (codes "M")
    (field 2 (list (alone (group_field (number_at 4 (pos 2) (number_at 5 (pos 10) no_fields)))))
    (field 3 (list (alone (named (codes "G") (field 2 (list (alone (named (codes "a") (number_at 4 (pos 2) (number_at 5 (pos 5) (text_at 7 (codes "1") no_fields)))))) no_fields)))) no_fields)))
    ≡ named (codes "M")
    (field 2 (list (alone (group_field (number_at 5 (pos 10) no_fields)))) (field 3 (list (alone (named (codes "G") (field 2 (list (alone (named (codes "a") an_int))) no_fields)))) no_fields))
groups = refl

-- WHAT IS LEFT OUT

-- package p; message M { extensions ..; extend .. { .. x } required a with a default value; } extend .. { .. y }
abbrev the_file : Datum
the_file =
    named (codes "m") (text_at 2 (codes "p")
    (field 4 (list (alone (named (codes "M")
    (field 2 (list (alone (named (codes "a") (number_at 4 (pos 2) (number_at 5 (pos 5) (text_at 7 (codes "1") no_fields))))))
    (field 5 (list (alone nothing)) (field 6 (list (alone (named (codes "x") no_fields))) no_fields))))))
    (field 7 (list (alone (named (codes "y") no_fields))) no_fields)))

all_kinds : omitted_in (set_of the_file)
    ≡ record { file = 0; name = codes "p.y"; part = part.Extension }
    ∷ record { file = 0; name = codes "p.M"; part = part.ExtensionRange }
    ∷ record { file = 0; name = codes "p.M.x"; part = part.Extension }
    ∷ record { file = 0; name = codes "p.M.a"; part = part.Required }
    ∷ record { file = 0; name = codes "p.M.a"; part = part.DefaultValue } ∷ []
all_kinds = refl

all_silent : set_causes (without_parts (set_of the_file)) ≡ []
all_silent = refl

the_entry : omitted_in (set_of (named (codes "m") (field 4 (list (alone (entry_of (pos 14) the_mark))) no_fields)))
    ≡ record { file = 0; name = codes "E"; part = part.ClosedMap } ∷ []
the_entry = refl

-- each kind in a message inside another: a range, an extension, a required field with a default value, the entry of a closed map
abbrev inner_message : Datum
inner_message =
    named (codes "N")
    (field 2 (list (alone (named (codes "a") (number_at 4 (pos 2) (number_at 5 (pos 5) (text_at 7 (codes "1") no_fields))))))
    (field 3 (list (alone (entry_of (pos 14) the_mark)))
    (field 5 (list (alone nothing)) (field 6 (list (alone (named (codes "x") an_int))) no_fields))))

abbrev around : Datum → Message
around d = set_of (named (codes "m") (field 4 (list (alone (named (codes "M") (field 3 (list (alone d)) no_fields)))) no_fields))

all_nested : omitted_in (around inner_message)
    ≡ record { file = 0; name = codes "M.N"; part = part.ExtensionRange }
    ∷ record { file = 0; name = codes "M.N.x"; part = part.Extension }
    ∷ record { file = 0; name = codes "M.N.a"; part = part.Required }
    ∷ record { file = 0; name = codes "M.N.a"; part = part.DefaultValue }
    ∷ record { file = 0; name = codes "M.N.E"; part = part.ClosedMap } ∷ []
all_nested = refl

nothing_nested : without_parts (around inner_message)
    ≡ around (named (codes "N") (field 2 (list (alone (named (codes "a") an_int))) (field 3 (list (alone (entry_of (pos 14) no_fields))) no_fields)))
nothing_nested = refl

-- a required field with a default value that is an extension is left out as an extension alone
required_extension : omitted_in (set_of (named (codes "m") (field 7 (list (alone (named (codes "x") (number_at 4 (pos 2) (number_at 5 (pos 5) (text_at 7 (codes "1") no_fields)))))) no_fields)))
    ≡ record { file = 0; name = codes "x"; part = part.Extension } ∷ []
required_extension = refl

-- two files, each with parts of two kinds
abbrev two_kinds : Datum
two_kinds = named (codes "m") (field 4 (list (alone (named (codes "M") (field 2 (list (alone (named (codes "a") (number_at 4 (pos 2) an_int)))) (field 5 (list (alone nothing)) no_fields))))) no_fields)

in_each_file : omitted_in (body (field 1 (list (datum two_kinds (alone two_kinds))) no_fields) [])
    ≡ record { file = 0; name = codes "M"; part = part.ExtensionRange }
    ∷ record { file = 0; name = codes "M.a"; part = part.Required }
    ∷ record { file = 1; name = codes "M"; part = part.ExtensionRange }
    ∷ record { file = 1; name = codes "M.a"; part = part.Required } ∷ []
in_each_file = refl

-- CAUSES OF WHAT STAYS

-- a field without a name is reported where an extension range was before
behind_extension :
    set_causes (without_parts (set_of (named (codes "m") (field 4 (list (alone (named (codes "M") (field 2 (list (alone nothing)) (field 5 (list (alone nothing)) no_fields))))) no_fields))))
    ≡ (0, cause.MissingName) ∷ (0, cause.BadTypeNumber) ∷ []
behind_extension = refl

-- of the causes that only proto2 has, that of an extendee among the fields stays, and that of a group in a file of proto3
abbrev of_proto2 : Datum
of_proto2 = named (codes "a") (text_at 2 [] (number_at 4 (pos 2) (number_at 5 (pos 10) (text_at 7 [] no_fields))))

lenient_in_proto3 : field_causes false (field_without of_proto2) ≡ cause.Extension ∷ cause.Group ∷ []
lenient_in_proto3 = refl

lenient_in_proto2 : field_causes true (field_without of_proto2) ≡ cause.Extension ∷ []
lenient_in_proto2 = refl

-- a label that is none stays, and so do a type number that is none and a missing type
abbrev field_alone : Fields → List DeclCause
field_alone fs = field_causes true (field_without (named (codes "a") fs))

bad_label : field_alone (number_at 4 (pos 4) an_int) ≡ cause.BadLabel ∷ []
bad_label = refl

bad_type : field_alone (number_at 4 (pos 2) (number_at 5 (pos 19) (text_at 7 [] no_fields))) ≡ cause.BadTypeNumber ∷ []
bad_type = refl

no_type : field_alone (text_at 7 [] no_fields) ≡ cause.BadTypeNumber ∷ []
no_type = refl

-- causes of a set's files
abbrev lenient_causes : Datum → List (ℕ × DeclCause)
lenient_causes d = set_causes (without_parts (set_of d))

nameless : lenient_causes (message (body (field 7 (list (alone nothing)) no_fields) [])) ≡ (0, cause.MissingName) ∷ []
nameless = refl

editions : lenient_causes (named (codes "m") (field 7 (list (alone nothing)) (text_at 12 (codes "editions") no_fields))) ≡ (0, cause.NotProto3) ∷ []
editions = refl

-- the order in which they are reported
order_inside :
    lenient_causes (named (codes "m")
    (field 4 (list (alone (message (body
    (field 2 (list (alone (named (codes "a") no_fields)))
    (field 3 (list (alone nothing))
    (field 4 (list (alone (named (codes "E") (field 2 (list (alone nothing)) no_fields))))
    (field 5 (list (alone nothing)) (field 8 (list (alone nothing)) no_fields))))) [])))) no_fields))
    ≡ (0, cause.MissingName) ∷ (0, cause.BadTypeNumber) ∷ (0, cause.MissingName) ∷ (0, cause.MissingName) ∷ (0, cause.MissingName) ∷ []
order_inside = refl

nested_after_fields :
    lenient_causes (named (codes "m")
    (field 4 (list (alone (named (codes "M")
    (field 2 (list (alone (named (codes "a") (number_at 4 (pos 0) (number_at 5 (pos 5) (text_at 7 [] no_fields))))))
    (field 3 (list (alone (named (codes "N") (field 2 (list (alone (named (codes "b") (number_at 4 (pos 2) no_fields)))) no_fields)))) no_fields))))) no_fields))
    ≡ (0, cause.BadLabel) ∷ (0, cause.BadTypeNumber) ∷ []
nested_after_fields = refl
