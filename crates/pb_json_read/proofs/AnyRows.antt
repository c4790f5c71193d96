-- An Any: small cases, worked out by the definitions.
use Rattle.std.proofs.Common.{◌≡◌, ℕ, List, [], ◌∷◌, true, false, Some, None, Ok, Err, refl, codes, arith}
use Rattle.std.specs.Path.{rsplit_once}
use Rattle.pb_wire.specs.Varint.{shortest, shortest_within}
use Rattle.pb_schema.specs.declared.types.Kind.{Kind}
use Rattle.pb_schema.specs.declared.types.Kind.TheVariants as kind
use Rattle.pb_schema.specs.declared.types.Shape.TheVariants as shape
use Rattle.pb_schema.specs.Types.{FieldView, MessageView, Types}
use Rattle.pb_schema.specs.Scalar.{boolean, bytes, text}
use Rattle.pb_value.specs.Data.{scalar, message, one, body, field, no_fields, empty, Message}
use Rattle.pb_value.specs.WellFormed.{IsWellFormed}
use Rattle.pb_json.specs.Given.{none_given}
use Rattle.pb_json_text.specs.Json as json
use Rattle.pb_json_read.specs.declared.rules.JsonRules.TheVariants.{Strict}
use Rattle.pb_json_read.specs.declared.error.JsonReadCause.TheVariants.{BadValue, RepeatedName, UnknownName}
use Rattle.pb_json_read.specs.Anys.{has_members, is_empty_type}
use Rattle.pb_json_read.specs.Faults.{fault}
use Rattle.pb_json_read.specs.Reads.{ReadsMessage}
use Rattle.pb_json_read.specs.Steps.{Parts, nothing}

abbrev the_field : ℕ → List ℕ → Kind → FieldView
the_field n name k = record { name = name; number = n; kind = k; shape = shape.Implicit }

abbrev the_type : List ℕ → List FieldView → MessageView
the_type name fields = record { name = name; file = 0; parent = None; fields = fields; oneofs = [] }

abbrev pool : Types
pool = record {
  files = record { name = codes "s"; package_name = codes "google.protobuf"; imports = []; proto2 = false } ∷ [];
  messages =
      the_type (codes "Any") (the_field 1 (codes "type_url") kind.Text ∷ the_field 2 (codes "value") kind.Bytes ∷ [])
      ∷ the_type (codes "T") (the_field 1 (codes "is_on") kind.Bool ∷ []) ∷ the_type (codes "BoolValue") (the_field 1 (codes "value") kind.Bool ∷ [])
      ∷ the_type (codes "Empty") [] ∷ [];
  enums = [];
}

abbrev t_url : List ℕ
t_url = codes "/google.protobuf.T"

abbrev bool_url : List ℕ
bool_url = codes "a/google.protobuf.BoolValue"

-- true in field 1
abbrev on : Message
on = body (field 1 (one (scalar (boolean true))) no_fields) []

abbrev an_any : List ℕ → Message
an_any url = body (field 1 (one (scalar (text url))) (field 2 (one (scalar (bytes (8 ∷ 1 ∷ [])))) no_fields)) []

t_well : IsWellFormed pool 1 on
t_well = record { parts = (((refl, tt, refl), tt), (omega arith, tt), (tt, tt), tt); depth = omega arith }

bool_well : IsWellFormed pool 2 on
bool_well = record { parts = (((refl, tt, refl), tt), (omega arith, tt), (tt, tt), tt); depth = omega arith }

abbrev tag : json.Json → json.Members → json.Json
tag j ms = json.object (json.member 1 (codes "@type") 9 j ms)

-- ---- the type

unset : ReadsMessage pool Strict none_given 0 0 (json.object json.no_members) (Ok empty)
unset = refl

no_object : ReadsMessage pool Strict none_given 0 4 (json.array json.no_elements) (Err (fault 4 BadValue))
no_object = refl

untyped : ReadsMessage pool Strict none_given 0 0 (json.object (json.member 1 (codes "isOn") 8 (json.boolean true) json.no_members)) (Err (fault 0 BadValue))
untyped = refl

no_string : ReadsMessage pool Strict none_given 0 0 (tag (json.number (codes "1")) json.no_members) (Err (fault 9 BadValue))
no_string = refl

no_type : ReadsMessage pool Strict none_given 0 0 (tag (json.string (codes "/google.protobuf.U")) json.no_members) (Err (fault 9 BadValue))
unfolding rsplit_once
no_type = refl

no_slash : ReadsMessage pool Strict none_given 0 0 (tag (json.string (codes "google.protobuf.T")) json.no_members) (Err (fault 9 BadValue))
unfolding rsplit_once
no_slash = refl

typed_twice : ReadsMessage pool Strict none_given 0 0 (tag (json.string t_url) (json.member 30 (codes "@type") 38 (json.string t_url) json.no_members)) (Err (fault 30 RepeatedName))
typed_twice = refl

-- ---- the other members: of a type without a form of its own, before the URL

abbrev flagged : Parts
flagged = record { message = on; numbers = 1 ∷ []; oneofs = [] }

of_t : ReadsMessage pool Strict none_given 0 0 (json.object (json.member 1 (codes "isOn") 8 (json.boolean true) (json.member 13 (codes "@type") 21 (json.string t_url) json.no_members))) (Ok (an_any t_url))
unfolding rsplit_once shortest shortest_within
of_t = (
  Ok (8 ∷ 1 ∷ []),
  (
    Ok on,
    (
      Ok flagged,
      (
        Ok flagged,
        (Ok (Some (one (scalar (boolean true)))), (Ok (Some (scalar (boolean true))), (true, refl, refl), refl), refl),
        (Ok flagged, refl, refl),
      ),
      refl,
    ),
    (t_well, omega arith, refl),
  ),
  refl,
)

no_member_of_t : ReadsMessage pool Strict none_given 0 0 (tag (json.string t_url) (json.member 30 (codes "value") 38 (json.boolean true) json.no_members)) (Err (fault 30 UnknownName))
unfolding rsplit_once
no_member_of_t = (
  Err (fault 30 UnknownName),
  (Err (fault 30 UnknownName), (Err (fault 30 UnknownName), (Ok nothing, refl, (Err (fault 30 UnknownName), refl, refl)), refl), refl),
  refl,
)

-- ---- of a type with one: `value`

abbrev held : Parts
held = record { message = body (field 1 (one (message on)) no_fields) []; numbers = 1 ∷ []; oneofs = [] }

of_bool : ReadsMessage pool Strict none_given 0 0 (tag (json.string bool_url) (json.member 30 (codes "value") 38 (json.boolean true) json.no_members)) (Ok (an_any bool_url))
unfolding rsplit_once shortest shortest_within
of_bool = (
  Ok (8 ∷ 1 ∷ []),
  (
    Ok on,
    (
      Ok held,
      (
        Ok nothing,
        refl,
        (
          Ok held,
          (
            Ok (Some (one (message on))),
            (
              Ok (Some (message on)),
              (Ok on, (Ok (Some (one (scalar (boolean true)))), (Ok (Some (scalar (boolean true))), (true, refl, refl), refl), refl), refl),
              refl,
            ),
            refl,
          ),
          refl,
        ),
      ),
      refl,
    ),
    (bool_well, omega arith, refl),
  ),
  refl,
)

no_value : ReadsMessage pool Strict none_given 0 0 (tag (json.string bool_url) json.no_members) (Err (fault 0 BadValue))
unfolding rsplit_once
no_value = (Err (fault 0 BadValue), (Err (fault 0 BadValue), (Ok nothing, (Ok nothing, refl, refl), refl), refl), refl)

no_member_of_bool : ReadsMessage pool Strict none_given 0 0 (tag (json.string bool_url) (json.member 30 (codes "isOn") 38 (json.boolean true) json.no_members)) (Err (fault 30 UnknownName))
unfolding rsplit_once
no_member_of_bool = (
  Err (fault 30 UnknownName),
  (Err (fault 30 UnknownName), (Err (fault 30 UnknownName), (Ok nothing, refl, (Err (fault 30 UnknownName), refl, refl)), refl), refl),
  refl,
)

-- ---- of `google.protobuf.Empty`: with the member `value`, and without it

abbrev empty_url : List ℕ
empty_url = codes "/google.protobuf.Empty"

an_empty : is_empty_type pool 3 ≡ true
an_empty = refl

another_type : is_empty_type pool 1 ≡ false
another_type = refl

a_form : has_members pool 2 ≡ false
a_form = refl

-- one that has a field
abbrev own_pool : Types
own_pool = record {
  files = record { name = codes "s"; package_name = codes "google.protobuf"; imports = []; proto2 = false } ∷ [];
  messages = the_type (codes "Empty") (the_field 1 (codes "is_on") kind.Bool ∷ []) ∷ [];
  enums = [];
}

own_empty : has_members own_pool 0 ≡ true
own_empty = refl

empty_well : IsWellFormed pool 3 empty
empty_well = record { parts = (tt, tt, tt, tt); depth = omega arith }

abbrev any_of_empty : Message
any_of_empty = body (field 1 (one (scalar (text empty_url))) no_fields) []

abbrev held_empty : Parts
held_empty = record { message = body (field 1 (one (message empty)) no_fields) []; numbers = 1 ∷ []; oneofs = [] }

of_empty : ReadsMessage pool Strict none_given 0 0 (tag (json.string empty_url) (json.member 30 (codes "value") 38 (json.object json.no_members) json.no_members)) (Ok any_of_empty)
unfolding rsplit_once shortest shortest_within
of_empty = (
  Ok [],
  (
    Ok empty,
    (
      Ok held_empty,
      (
        Ok nothing,
        refl,
        (
          Ok held_empty,
          (Ok (Some (one (message empty))), (Ok (Some (message empty)), (Ok empty, (Ok nothing, refl, refl), refl), refl), refl),
          refl,
        ),
      ),
      refl,
    ),
    (empty_well, omega arith, refl),
  ),
  refl,
)

of_empty_alone : ReadsMessage pool Strict none_given 0 0 (tag (json.string empty_url) json.no_members) (Ok any_of_empty)
unfolding rsplit_once shortest shortest_within
of_empty_alone = (Ok [], (Ok empty, (Ok nothing, (Ok nothing, refl, refl), refl), (empty_well, omega arith, refl)), refl)

no_empty : ReadsMessage pool Strict none_given 0 0 (tag (json.string empty_url) (json.member 30 (codes "value") 38 (json.boolean true) json.no_members)) (Err (fault 38 BadValue))
unfolding rsplit_once
no_empty = (
  Err (fault 38 BadValue),
  (
    Err (fault 38 BadValue),
    (
      Err (fault 38 BadValue),
      (
        Ok nothing,
        refl,
        (Err (fault 38 BadValue), (Err (fault 38 BadValue), (Err (fault 38 BadValue), (Err (fault 38 BadValue), refl, refl), refl), refl), refl),
      ),
      refl,
    ),
    refl,
  ),
  refl,
)

no_member_of_empty : ReadsMessage pool Strict none_given 0 0 (tag (json.string empty_url) (json.member 30 (codes "isOn") 38 (json.boolean true) json.no_members)) (Err (fault 30 UnknownName))
unfolding rsplit_once
no_member_of_empty = (
  Err (fault 30 UnknownName),
  (Err (fault 30 UnknownName), (Err (fault 30 UnknownName), (Ok nothing, refl, (Err (fault 30 UnknownName), refl, refl)), refl), refl),
  refl,
)
