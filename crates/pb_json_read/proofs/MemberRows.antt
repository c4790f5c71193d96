-- Members of messages and entries of maps: small cases, worked out by the definitions.
use Rattle.std.proofs.Common.{◌≡◌, ℕ, List, [], ◌∷◌, true, false, Option, Some, None, IsSomeAnd, Ok, Err, refl, sym, subst, arith, inl, inr, pos, codes}
use Rattle.pb_schema.specs.declared.types.Kind.TheVariants as kind
use Rattle.pb_schema.specs.declared.types.Shape.TheVariants as shape
use Rattle.pb_schema.specs.Types.{FieldView, Types}
use Rattle.pb_schema.specs.Scalar.{boolean, uint64}
use Rattle.pb_value.specs.Data.{Entries, entry, no_entries, scalar, map, body, field, no_fields, empty, Message}
use Rattle.pb_value.specs.WellFormed.{IsWellFormed}
use Rattle.pb_json.specs.Given.{NamesGiven, none_given}
use Rattle.pb_json.specs.Refusals.{Refused, refused}
use Rattle.pb_json.specs.declared.error.JsonCause.TheVariants as form
use Rattle.pb_json_scalars.specs.Numbers.{IsIntegerText, none}
use Rattle.pb_json_text.specs.Json as json
use Rattle.pb_json_read.specs.declared.rules.JsonRules.{JsonRules}
use Rattle.pb_json_read.specs.declared.rules.JsonRules.TheVariants.{Strict, Lenient}
use Rattle.pb_json_read.specs.declared.error.JsonReadCause.TheVariants.{BadKey, BadValue, RepeatedName, TooDeep, UnknownName}
use Rattle.pb_json_read.specs.Answers.{HasReadFault}
use Rattle.pb_json_read.specs.Anys.{Encodes}
use Rattle.pb_json_read.specs.Faults.{cause_of_form, fault}
use Rattle.pb_json_read.specs.Reads.{ReadsMessage}
use Rattle.pb_json_read.specs.Steps.{Entered, Parts, none_entered, nothing, ReadsEntry, ReadsField, ReadsUnder}
use Rattle.pb_json_read.specs.Values.{IsUint64}

abbrev choice : FieldView
choice = record { name = codes "choice"; number = 2; kind = kind.Bool; shape = shape.OneofMember 0 }

abbrev flags : FieldView
flags = record { name = codes "flags"; number = 3; kind = kind.Bool; shape = shape.Map kind.Bool }

abbrev pool : Types
pool = record {
  files = [];
  messages = record { name = codes "M"; file = 0; parent = None; fields = choice ∷ flags ∷ []; oneofs = codes "o" ∷ [] } ∷ [];
  enums = [];
}

abbrev one_member : List ℕ → json.Json → json.Json
one_member name j = json.object (json.member 1 name 8 j json.no_members)

-- ---- null names its field, and sets no oneof

null_sets_no_oneof : ReadsField pool Strict (Some choice) 5 json.null (λ s k r. ⊥) nothing (Ok (record { message = empty; numbers = 2 ∷ []; oneofs = [] }))
null_sets_no_oneof = refl

-- ---- a name that no field has: `{"other":true}`

unknown : ReadsMessage pool Strict none_given 0 0 (one_member (codes "other") (json.boolean true)) (Err (fault 1 UnknownName))
unknown = (Err (fault 1 UnknownName), (Err (fault 1 UnknownName), refl, refl), refl)

unknown_passed : ReadsMessage pool Lenient none_given 0 0 (one_member (codes "other") (json.boolean true)) (Ok empty)
unknown_passed = (Ok nothing, (Ok nothing, refl, refl), refl)

-- ---- the entries of a map

abbrev an_entry : Entries
an_entry = entry (boolean true) (scalar (boolean false)) no_entries

abbrev entered : Entered
entered = record { entries = an_entry; passed = no_entries }

abbrev with_entries : Parts
with_entries = record { message = body (field 3 (map an_entry) no_fields) []; numbers = 3 ∷ []; oneofs = [] }

-- `{"flags":{"true":false}}`
an_entry_read : ReadsMessage pool Strict none_given 0 0 (one_member (codes "flags") (json.object (json.member 9 (codes "true") 16 (json.boolean false) json.no_members)))
    (Ok with_entries.message)
an_entry_read = (
  Ok with_entries,
  (
    Ok with_entries,
    (
      Ok (Some (map an_entry)),
      (
        Ok an_entry,
        (
          Ok entered,
          (
            Ok entered,
            (boolean true, (true, refl, refl), (Ok (Some (scalar (boolean false))), (false, refl, refl), refl)),
            refl,
          ),
          refl,
        ),
        refl,
      ),
      refl,
    ),
    refl,
  ),
  refl,
)

second_key : ReadsUnder (boolean true) 9 (λ r. r ≡ Ok (Some (scalar (boolean true)))) entered (Err (fault 9 RepeatedName))
second_key = refl

another_key : ReadsUnder (boolean false) 9 (λ r. r ≡ Ok (Some (scalar (boolean true)))) entered
    (Ok (record { entries = entry (boolean false) (scalar (boolean true)) an_entry; passed = no_entries }))
another_key = (Ok (Some (scalar (boolean true))), refl, refl)

-- a value that is passed over notes its key too, so that it is named once in any order
abbrev passed_true : Entered
passed_true = record { entries = no_entries; passed = an_entry }

passed_key_is_noted : ReadsUnder (boolean true) 9 (λ r. r ≡ Ok None) none_entered (Ok passed_true)
passed_key_is_noted = (Ok None, refl, refl)

second_key_after_a_passed_one : ReadsUnder (boolean true) 9 (λ r. r ≡ Ok (Some (scalar (boolean true)))) passed_true (Err (fault 9 RepeatedName))
second_key_after_a_passed_one = refl

second_key_is_not_passed : ReadsUnder (boolean true) 9 (λ r. r ≡ Ok None) entered (Err (fault 9 RepeatedName))
second_key_is_not_passed = refl

no_key : ReadsEntry kind.Bool (codes "yes") 9 (λ r. ⊥) none_entered (Err (fault 9 BadKey))
no_key = inr (λ x h. cc, refl)

-- ---- 64-bit integers, in a string too

seven : IsIntegerText (codes "7") (pos 7)
seven = (
  record { negative = false; whole = codes "7"; fraction = []; upper = false; sign = none; exponent = [] },
  record { whole = ((omega arith, (omega arith, tt)), λ e. refl); fraction = tt; exponent = tt; text = refl },
  (7, refl, refl),
)

uint64_in_a_string : IsUint64 (json.string (codes "7")) (scalar (uint64 7))
uint64_in_a_string = (7, (seven, omega arith), refl)

uint64_as_a_number : IsUint64 (json.number (codes "7")) (scalar (uint64 7))
uint64_as_a_number = (7, (seven, omega arith), refl)

-- ---- what nests too deep is refused where it begins

too_deep : (types : Types) (rules : JsonRules) (names : NamesGiven) (m at : ℕ) (j : json.Json) (v : Message)
    → ReadsMessage types rules names m at j (Ok v) → ¬ IsWellFormed types m v → HasReadFault types rules names m (at, j) (fault at TooDeep)
too_deep types rules names m at j v reads deep = inr (v, reads, inl (deep, refl))

too_deep_in_an_any : (types : Types) (t at : ℕ) (b : Message) → ¬ IsWellFormed types t b → Encodes types t at b (Err (fault at TooDeep))
too_deep_in_an_any types t at b deep = inl (deep, refl)

-- ---- and so is what has no JSON form

no_form : (types : Types) (rules : JsonRules) (names : NamesGiven) (m at : ℕ) (j : json.Json) (v : Message) (r : Refused)
    → ReadsMessage types rules names m at j (Ok v) → IsWellFormed types m v → refused (record { pool = types; kind = m; body = v }) ≡ Some r
    → HasReadFault types rules names m (at, j) (fault at (cause_of_form r.cause))
no_form types rules names m at j v r reads well is =
    inr (v, reads, inr (well, subst (λ (o : Option Refused). IsSomeAnd o (λ s. fault at (cause_of_form r.cause) ≡ fault at (cause_of_form s.cause))) (sym is) refl))

deep_anys : cause_of_form form.Unsupported ≡ TooDeep
deep_anys = refl

no_kind : cause_of_form form.NoKind ≡ BadValue
no_kind = refl

not_finite : cause_of_form form.NotFinite ≡ BadValue
not_finite = refl

out_of_range : cause_of_form form.OutOfRange ≡ BadValue
out_of_range = refl

bad_path : cause_of_form form.BadPath ≡ BadValue
bad_path = refl
