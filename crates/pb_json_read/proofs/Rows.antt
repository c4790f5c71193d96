-- Small cases, worked out by the definitions.
use Rattle.std.proofs.Common.{◌≡◌, ℕ, List, [], ◌∷◌, true, false, Some, None, Ok, Err, refl}
use Rattle.std.specs.Prelude.{codes}
use Rattle.pb_schema.specs.declared.types.Kind.TheVariants as kind
use Rattle.pb_schema.specs.declared.types.Shape.TheVariants as shape
use Rattle.pb_schema.specs.Types.{FieldView, Types}
use Rattle.pb_schema.specs.Scalar.{boolean}
use Rattle.pb_value.specs.Data.{scalar, one, list, no_datums, body, field, no_fields, empty}
use Rattle.pb_json.specs.Given.{NamesGiven, none_given}
use Rattle.pb_json_text.specs.Json as json
use Rattle.pb_json_read.specs.declared.rules.JsonRules.TheVariants.{Strict, Lenient}
use Rattle.pb_json_read.specs.declared.error.JsonReadCause.TheVariants.{UnknownName, RepeatedName, SecondMember, BadValue}
use Rattle.pb_json_read.specs.Faults.{fault}
use Rattle.pb_json_read.specs.Names.{field_among}
use Rattle.pb_json_read.specs.Steps.{Parts, nothing, with_number, with_oneof, with_held, unknown_name, is_absent, passes_over}
use Rattle.pb_json_read.specs.Reads.{ReadsMessage}

abbrev flag : FieldView
flag = record { name = codes "is_on"; number = 1; kind = kind.Bool; shape = shape.Implicit }

abbrev other : FieldView
other = record { name = codes "isOn"; number = 2; kind = kind.Bool; shape = shape.OneofMember 0 }

abbrev pool : Types
pool = record { files = []; messages = record { name = codes "M"; file = 0; parent = None; fields = flag ∷ []; oneofs = [] } ∷ []; enums = [] }

-- ---- names

by_camel : field_among none_given 0 (flag ∷ []) (codes "isOn") ≡ Some flag
by_camel = refl

by_declared : field_among none_given 0 (flag ∷ other ∷ []) (codes "is_on") ≡ Some flag
by_declared = refl

declared_first : field_among none_given 0 (flag ∷ other ∷ []) (codes "isOn") ≡ Some other
declared_first = refl

no_other_case : field_among none_given 0 (flag ∷ other ∷ []) (codes "ison") ≡ None
no_other_case = refl

-- the first field of the type at index 0 is given a name
abbrev label : List ℕ → NamesGiven
label name = ((0, 1), name) ∷ []

by_given : field_among (label (codes "label")) 0 (other ∷ flag ∷ []) (codes "label") ≡ Some flag
by_given = refl

given_and_declared : field_among (label (codes "label")) 0 (other ∷ flag ∷ []) (codes "is_on") ≡ Some flag
given_and_declared = refl

not_by_camel_too : field_among (label (codes "label")) 0 (flag ∷ []) (codes "isOn") ≡ None
not_by_camel_too = refl

given_first : field_among (label (codes "isOn")) 0 (other ∷ flag ∷ []) (codes "isOn") ≡ Some flag
given_first = refl

of_another_type : field_among (label (codes "label")) 1 (other ∷ flag ∷ []) (codes "label") ≡ None
of_another_type = refl

not_of_another_field : field_among (label (codes "label")) 0 (other ∷ []) (codes "label") ≡ None
not_of_another_field = refl

-- ---- members

abbrev after_flag : Parts
after_flag = record { message = empty; numbers = 1 ∷ []; oneofs = 0 ∷ [] }

second_name : with_number 1 5 after_flag ≡ Err (fault 5 RepeatedName)
second_name = refl

another_name : with_number 2 5 after_flag ≡ Ok (record { message = empty; numbers = 1 ∷ 2 ∷ []; oneofs = 0 ∷ [] })
another_name = refl

second_member : with_oneof (shape.OneofMember 0) 5 after_flag ≡ Err (fault 5 SecondMember)
second_member = refl

no_oneof : with_oneof shape.Explicit 5 after_flag ≡ Ok after_flag
no_oneof = refl

default_left_out : with_held shape.Implicit 1 (Some (one (scalar (boolean false)))) nothing ≡ nothing
default_left_out = refl

default_kept : with_held shape.Explicit 1 (Some (one (scalar (boolean false)))) nothing
    ≡ record { message = body (field 1 (one (scalar (boolean false))) no_fields) []; numbers = []; oneofs = [] }
default_kept = refl

no_list_kept : with_held (shape.List false) 1 (Some (list no_datums)) nothing ≡ nothing
no_list_kept = refl

null_is_absent : is_absent pool shape.Implicit kind.Bool json.null ≡ true
null_is_absent = refl

false_is_not : is_absent pool shape.Implicit kind.Bool (json.boolean false) ≡ false
false_is_not = refl

refused_name : unknown_name Strict 3 nothing ≡ Err (fault 3 UnknownName)
refused_name = refl

passed_name : unknown_name Lenient 3 nothing ≡ Ok nothing
passed_name = refl

no_number_passes : passes_over Lenient kind.Int32 (json.string (codes "x")) ≡ false
no_number_passes = refl

-- ---- messages: `{}`, `[]`, `{"isOn":true}` and `{"isOn":0}`

empty_object : ReadsMessage pool Strict none_given 0 0 (json.object json.no_members) (Ok empty)
empty_object = (Ok nothing, refl, refl)

no_object : ReadsMessage pool Strict none_given 0 4 (json.array json.no_elements) (Err (fault 4 BadValue))
no_object = refl

abbrev one_member : json.Json → json.Json
one_member j = json.object (json.member 1 (codes "isOn") 8 j json.no_members)

abbrev flagged : Parts
flagged = record { message = body (field 1 (one (scalar (boolean true))) no_fields) []; numbers = 1 ∷ []; oneofs = [] }

one_flag : ReadsMessage pool Strict none_given 0 0 (one_member (json.boolean true)) (Ok flagged.message)
one_flag = (
  Ok flagged,
  (
    Ok flagged,
    (Ok (Some (one (scalar (boolean true)))), (Ok (Some (scalar (boolean true))), (true, refl, refl), refl), refl),
    refl,
  ),
  refl,
)

one_number : ReadsMessage pool Strict none_given 0 0 (one_member (json.number (codes "0"))) (Err (fault 8 BadValue))
one_number = (
  Err (fault 8 BadValue),
  (
    Err (fault 8 BadValue),
    (Err (fault 8 BadValue), (Err (fault 8 BadValue), (λ d h. h.1, refl, refl), refl), refl),
    refl,
  ),
  refl,
)
