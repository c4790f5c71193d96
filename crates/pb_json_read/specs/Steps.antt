-- What is read step by step: single values, what fields hold, members, elements and entries, each by how its parts are read.
use Rattle.std.specs.Prelude.{◌≡◌, ℕ, List, [], Bool, true, false, ◌&&◌, ◌||◌, not, if◌then◌else◌, Option, Some, None, is_some, option_map, Result, Ok, Err, ◌⊎◌}
use Rattle.std.specs.BTreeSet.{contains, insert_key}
use Rattle.std.specs.Option.{option_map_or}
use Rattle.std.specs.Ordering.{nat_cmp}
use Rattle.pb_schema.specs.declared.types.Kind.{Kind}
use Rattle.pb_schema.specs.declared.types.Shape.{Shape}
use Rattle.pb_schema.specs.declared.types.Shape.TheVariants as shape
use Rattle.pb_schema.specs.Types.{FieldView, Types}
use Rattle.pb_schema.specs.Kinds.{enum_of_kind, message_of_kind}
use Rattle.pb_schema.specs.Scalar.{Scalar, boolean as a_boolean}
use Rattle.pb_value.specs.Data.{Datum, message, scalar, Datums, no_datums, datum, joined_datums, Entries, no_entries, get_entry, put_entry}
use Rattle.pb_value.specs.Data.{Holding, one, list, map, Message, empty, fields_of, put_field}
use Rattle.pb_value.specs.Change.{with_fields}
use Rattle.pb_value.specs.Judge.{is_absence}
use Rattle.pb_json.specs.WellKnown.{well_known}
use Rattle.pb_json_text.specs.Json.{Json, null, boolean, number, string, array, object}
use Rattle.pb_json_read.specs.declared.rules.JsonRules.{JsonRules}
use Rattle.pb_json_read.specs.declared.rules.JsonRules.TheVariants.{Strict, Lenient}
use Rattle.pb_json_read.specs.declared.error.JsonReadCause.TheVariants.{UnknownName, RepeatedName, SecondMember, BadKey, BadValue}
use Rattle.pb_json_read.specs.declared.error.JsonReadError.{JsonReadError}
use Rattle.pb_json_read.specs.Faults.{fault}
use Rattle.pb_json_read.specs.WellKnown.{is_dynamic}
use Rattle.pb_json_read.specs.Scalars.{is_null_enum}
use Rattle.pb_json_read.specs.Values.{IsScalar}
use Rattle.pb_json_read.specs.Keys.{IsKey}

-- what is read, or the first fault
abbrev pub Read : Type 0 → Type 0
Read A = Result A JsonReadError

-- ONE THING AFTER ANOTHER

-- what comes next, where there is no fault yet
abbrev pub After : {A B : Type 0} → Read A → (A → Read B → Type 0) → Read B → Type 0
After (Ok x) Next o = Next x o
After (Err e) Next o = o ≡ Err e

-- first this, and what comes next
abbrev pub Then : {A B : Type 0} → (Read A → Type 0) → (A → Read B → Type 0) → Read B → Type 0
Then {A} First Next o = (r : Read A) × First r × After r Next o

-- this, and what is made of it
abbrev pub Made : {A B : Type 0} → (Read A → Type 0) → (A → B) → Read B → Type 0
Made First f o = Then First (λ x r. r ≡ Ok (f x)) o

-- no value of the field
abbrev pub NoValue : {A : Type 0} → ℕ → Read A → Type 0
NoValue at o = o ≡ Err (fault at BadValue)

-- what is given, or no value of the field
abbrev pub given : {A : Type 0} → ℕ → Option A → Read A
given at None = Err (fault at BadValue)
given at (Some x) = Ok x

-- SINGLE VALUES

abbrev pub is_string : Json → Bool
is_string (string s) = true
is_string null = false
is_string (boolean b) = false
is_string (number s) = false
is_string (array js) = false
is_string (object ms) = false

abbrev pub is_null : Json → Bool
is_null null = true
is_null (string s) = false
is_null (boolean b) = false
is_null (number s) = false
is_null (array js) = false
is_null (object ms) = false

-- a string that names no value of an enum is passed over
abbrev pub passes_over : JsonRules → Kind → Json → Bool
passes_over Strict k j = false
passes_over Lenient k j = is_some (enum_of_kind k) && is_string j

-- a value of a kind that is no message: it, or nothing where it is passed over
abbrev pub ReadsScalar : Types → JsonRules → Kind → ℕ → Json → Read (Option Datum) → Type 0
ReadsScalar pool rules k at j (Ok (Some d)) = IsScalar pool k j d
ReadsScalar pool rules k at j (Ok None) = ((d : Datum) → ¬ IsScalar pool k j d) × (passes_over rules k j ≡ true)
ReadsScalar pool rules k at j (Err e) = ((d : Datum) → ¬ IsScalar pool k j d) × (passes_over rules k j ≡ false) × (e ≡ fault at BadValue)

-- a value of a kind, where it is read so as a message of a type
abbrev pub ReadsOf : Option ℕ → (Read (Option Datum) → Type 0) → (ℕ → Read Message → Type 0) → Read (Option Datum) → Type 0
ReadsOf None Plain Inside o = Plain o
ReadsOf (Some m) Plain Inside o = Made (Inside m) (λ b. Some (message b)) o

abbrev pub ReadsSingle : Types → JsonRules → Kind → ℕ → Json → (ℕ → Read Message → Type 0) → Read (Option Datum) → Type 0
ReadsSingle pool rules k at j Inside o = ReadsOf (message_of_kind k) (ReadsScalar pool rules k at j) Inside o

-- FIELDS

-- what a field holds, where a value, a list and a map are read so
abbrev pub ReadsShape : Shape → (Read (Option Datum) → Type 0) → (Read Datums → Type 0) → (Kind → Read Entries → Type 0) → Read (Option Holding) → Type 0
ReadsShape shape.Implicit Single Listed Mapped o = Made Single (option_map one) o
ReadsShape shape.Explicit Single Listed Mapped o = Made Single (option_map one) o
ReadsShape (shape.OneofMember _) Single Listed Mapped o = Made Single (option_map one) o
ReadsShape (shape.List _) Single Listed Mapped o = Made Listed (λ ds. Some (list ds)) o
ReadsShape (shape.Map key) Single Listed Mapped o = Made (Mapped key) (λ es. Some (map es)) o

-- null is a value of the enum whose one value means null, and of `google.protobuf.Value`
abbrev pub has_null : Types → Kind → Bool
has_null pool k = option_map_or (is_null_enum pool) (enum_of_kind k) (option_map_or (λ m. is_dynamic (well_known pool m)) (message_of_kind k) false)

-- a field of one value takes null, where it is a value of the field's kind
abbrev pub takes_null : Types → Shape → Kind → Bool
takes_null pool shape.Implicit k = has_null pool k
takes_null pool shape.Explicit k = has_null pool k
takes_null pool (shape.OneofMember _) k = has_null pool k
takes_null pool (shape.List _) k = false
takes_null pool (shape.Map _) k = false

-- else null says that the field is absent
abbrev pub is_absent : Types → Shape → Kind → Json → Bool
is_absent pool s k j = is_null j && not (takes_null pool s k)

-- MEMBERS OF A MESSAGE

-- what the members so far give: a message, the numbers of the fields that they name, and the oneofs that they set, both rising
pub record Parts : Type 0 where
  pub message : Message
  pub numbers : List ℕ
  pub oneofs : List ℕ

abbrev pub nothing : Parts
nothing = record { message = empty; numbers = []; oneofs = [] }

abbrev pub has : ℕ → List ℕ → Bool
has n ns = contains nat_cmp (record { keys = ns }) n

-- no two members name one field
abbrev pub with_number : ℕ → ℕ → Parts → Read Parts
with_number n at p = if has n p.numbers then Err (fault at RepeatedName) else Ok (record p { numbers = insert_key nat_cmp p.numbers n })

-- no two members set one oneof
abbrev pub with_oneof : Shape → ℕ → Parts → Read Parts
with_oneof (shape.OneofMember n) at p =
    if has n p.oneofs then Err (fault at SecondMember) else Ok (record p { oneofs = insert_key nat_cmp p.oneofs n })
with_oneof shape.Implicit at p = Ok p
with_oneof shape.Explicit at p = Ok p
with_oneof (shape.List _) at p = Ok p
with_oneof (shape.Map _) at p = Ok p

-- what a field holds, which is left out where an absent field is the same
abbrev pub with_held : Shape → ℕ → Option Holding → Parts → Parts
with_held s n None p = p
with_held s n (Some h) p = if is_absence s h then p else record p { message = with_fields p.message (put_field n h (fields_of p.message)) }

-- the members so far, where one is passed over
abbrev pub Unless : Bool → Parts → (Read Parts → Type 0) → Read Parts → Type 0
Unless true p First o = o ≡ Ok p
Unless false p First o = First o

-- a value of a field, read so
abbrev pub ReadsHeld : FieldView → ℕ → (Shape → Kind → Read (Option Holding) → Type 0) → Bool → Parts → Read Parts → Type 0
ReadsHeld f at Content true p o = o ≡ Ok p
ReadsHeld f at Content false p o = After (with_oneof f.shape at p) (λ q r. Made (Content f.shape f.kind) (λ h. with_held f.shape f.number h q) r) o

-- a name that no field has
abbrev pub unknown_name : JsonRules → ℕ → Parts → Read Parts
unknown_name Strict at p = Err (fault at UnknownName)
unknown_name Lenient at p = Ok p

-- a member whose name at this byte means the field
abbrev pub ReadsField : Types → JsonRules → Option FieldView → ℕ → Json → (Shape → Kind → Read (Option Holding) → Type 0) → Parts → Read Parts → Type 0
ReadsField pool rules None at j Content p o = o ≡ unknown_name rules at p
ReadsField pool rules (Some f) at j Content p o =
    After (with_number f.number at p) (λ q r. ReadsHeld f at Content (is_absent pool f.shape f.kind j) q r) o

-- ELEMENTS AND ENTRIES

abbrev pub with_datum : Datums → Option Datum → Datums
with_datum ds None = ds
with_datum ds (Some d) = joined_datums ds (datum d no_datums)

-- what the members of an object so far give as a map: its entries, and the keys of those whose values are passed over, each with false
pub record Entered : Type 0 where
  pub entries : Entries
  pub passed : Entries

abbrev pub none_entered : Entered
none_entered = record { entries = no_entries; passed = no_entries }

-- no two members name one key, whether their values are passed over or not
abbrev pub is_taken : Scalar → Entered → Bool
is_taken x s = is_some (get_entry x s.entries) || is_some (get_entry x s.passed)

abbrev pub with_entry : Scalar → Entered → Option Datum → Entered
with_entry x s None = record s { passed = put_entry x (scalar (a_boolean false)) s.passed }
with_entry x s (Some d) = record s { entries = put_entry x d s.entries }

-- a map, where its entries are read so
abbrev pub Mapped : (Read Entered → Type 0) → Read Entries → Type 0
Mapped Entering o = Made Entering (λ s. s.entries) o

-- an entry under a key, where its value is read so
abbrev pub ReadsUnder : Scalar → ℕ → (Read (Option Datum) → Type 0) → Entered → Read Entered → Type 0
ReadsUnder x at Value s o =
    After (if is_taken x s then Err (fault at RepeatedName) else Ok s) (λ before r. Made Value (with_entry x before) r) o

-- an entry: its name, at this byte, is a key
abbrev pub ReadsEntry : Kind → List ℕ → ℕ → (Read (Option Datum) → Type 0) → Entered → Read Entered → Type 0
ReadsEntry key name at Value s (Ok r) = (x : Scalar) × IsKey key name x × ReadsUnder x at Value s (Ok r)
ReadsEntry key name at Value s (Err e) =
    ((x : Scalar) × IsKey key name x × ReadsUnder x at Value s (Err e)) ⊎ (((x : Scalar) → ¬ IsKey key name x) × (e ≡ fault at BadKey))
