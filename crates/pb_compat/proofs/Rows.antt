-- Worked cases of the rules.
use Rattle.std.proofs.Common.{◌≡◌, ℕ, pos, List, [], ◌∷◌, map, true, false, Some, None, refl}
use Rattle.pb_schema.specs.declared.types.Kind.{Kind}
use Rattle.pb_schema.specs.declared.types.Kind.TheVariants as kind
use Rattle.pb_schema.specs.declared.types.Shape.{Shape}
use Rattle.pb_schema.specs.declared.types.Shape.TheVariants as shape
use Rattle.pb_schema.specs.Types.{FieldView, EnumView, Types}
use Rattle.pb_compat.specs.declared.difference.Severity.{Severity}
use Rattle.pb_compat.specs.declared.difference.Severity.TheVariants.{BreaksReading, Loses, ChangesPresence, Converts, Renames}
use Rattle.pb_compat.specs.Oneofs.{at_most_one, is_crowded}
use Rattle.pb_compat.specs.Fields.{keeps_shape, kind_form, severities}

abbrev a_field : ℕ → ℕ → Kind → Shape → FieldView
a_field letter n k s = record { name = letter ∷ []; number = n; kind = k; shape = s }

-- ONEOFS

alone : at_most_one (shape.Explicit ∷ []) ≡ true
alone = refl

side_by_side : at_most_one (shape.Explicit ∷ shape.Implicit ∷ []) ≡ false
side_by_side = refl

of_one_oneof : at_most_one (shape.OneofMember 0 ∷ shape.OneofMember 0 ∷ []) ≡ true
of_one_oneof = refl

of_two_oneofs : at_most_one (shape.OneofMember 0 ∷ shape.OneofMember 1 ∷ []) ≡ false
of_two_oneofs = refl

abbrev two_members : List FieldView
two_members = a_field 97 1 kind.Int32 (shape.OneofMember 0) ∷ a_field 98 2 kind.Int32 (shape.OneofMember 0) ∷ []

moved_in : is_crowded (a_field 97 1 kind.Int32 shape.Explicit ∷ a_field 98 2 kind.Int32 shape.Explicit ∷ []) two_members 0 ≡ true
moved_in = refl

one_moved_in : is_crowded (a_field 97 1 kind.Int32 shape.Explicit ∷ a_field 99 3 kind.Int32 shape.Explicit ∷ []) two_members 0 ≡ false
one_moved_in = refl

were_members : is_crowded two_members two_members 0 ≡ false
were_members = refl

module _ (old new : Types) where
  -- SHAPES

  one_as_list : keeps_shape old new shape.Implicit (shape.List false) ≡ true
  one_as_list = refl

  list_as_one : keeps_shape old new (shape.List true) shape.Explicit ≡ false
  list_as_one = refl

  unpacked : keeps_shape old new (shape.List true) (shape.List false) ≡ true
  unpacked = refl

  wider_keys : keeps_shape old new (shape.Map kind.Int32) (shape.Map kind.Int64) ≡ true
  wider_keys = refl

  narrower_keys : keeps_shape old new (shape.Map kind.Int64) (shape.Map kind.Int32) ≡ false
  narrower_keys = refl

  map_as_list : keeps_shape old new (shape.Map kind.Text) (shape.List false) ≡ false
  map_as_list = refl

  one_as_map : keeps_shape old new shape.Explicit (shape.Map kind.Text) ≡ false
  one_as_map = refl

  -- DIFFERENCES

  abbrev changed : FieldView → FieldView → List Severity
  changed f g = severities old new (λ o. false) f (Some g)

  same : changed (a_field 97 1 kind.Int32 shape.Implicit) (a_field 97 1 kind.Int32 shape.Implicit) ≡ []
  same = refl

  removed : severities old new (λ o. false) (a_field 97 1 kind.Int32 shape.Implicit) None ≡ Loses ∷ []
  removed = refl

  wider : changed (a_field 97 1 kind.Int32 shape.Implicit) (a_field 97 1 kind.Int64 shape.Implicit) ≡ Converts ∷ []
  wider = refl

  narrower_and_renamed : changed (a_field 97 1 kind.Int64 shape.Implicit) (a_field 98 1 kind.Int32 shape.Implicit) ≡ BreaksReading ∷ Renames ∷ []
  narrower_and_renamed = refl

  with_presence : changed (a_field 97 1 kind.Int32 shape.Implicit) (a_field 97 1 kind.Int64 shape.Explicit) ≡ ChangesPresence ∷ []
  with_presence = refl

  -- in a crowded oneof
  crowded : severities old new (λ o. true) (a_field 97 1 kind.Int32 shape.Explicit) (Some (a_field 97 1 kind.Int32 (shape.OneofMember 0))) ≡ BreaksReading ∷ []
  crowded = refl

  -- PRESENCE

  -- a member of a oneof counts as set also with its default
  into_oneof : changed (a_field 97 1 kind.Int32 shape.Implicit) (a_field 97 1 kind.Int32 (shape.OneofMember 0)) ≡ ChangesPresence ∷ []
  into_oneof = refl

  out_of_oneof : changed (a_field 97 1 kind.Int32 (shape.OneofMember 0)) (a_field 97 1 kind.Int32 shape.Implicit) ≡ ChangesPresence ∷ []
  out_of_oneof = refl

  out_of_oneof_with_presence : changed (a_field 97 1 kind.Int32 (shape.OneofMember 0)) (a_field 97 1 kind.Int32 shape.Explicit) ≡ Converts ∷ []
  out_of_oneof_with_presence = refl

  -- a list has no value that counts as set or not
  into_list : changed (a_field 97 1 kind.Int32 shape.Implicit) (a_field 97 1 kind.Int32 (shape.List true)) ≡ Converts ∷ []
  into_list = refl

  into_list_with_presence : changed (a_field 97 1 kind.Int32 shape.Explicit) (a_field 97 1 kind.Int32 (shape.List true)) ≡ Converts ∷ []
  into_list_with_presence = refl

  -- KINDS OF ONE WIRE TYPE

  enum_as_int32 : changed (a_field 97 1 (kind.Enum (record { 0 = 0 })) shape.Implicit) (a_field 97 1 kind.Int32 shape.Implicit) ≡ Converts ∷ []
  enum_as_int32 = refl

  wider_unsigned : changed (a_field 97 1 kind.Uint32 shape.Implicit) (a_field 97 1 kind.Uint64 shape.Implicit) ≡ Converts ∷ []
  wider_unsigned = refl

  unsigned_as_int64 : changed (a_field 97 1 kind.Uint32 shape.Implicit) (a_field 97 1 kind.Int64 shape.Implicit) ≡ Converts ∷ []
  unsigned_as_int64 = refl

  wider_zigzag : changed (a_field 97 1 kind.Sint32 shape.Implicit) (a_field 97 1 kind.Sint64 shape.Implicit) ≡ Converts ∷ []
  wider_zigzag = refl

  bool_as_uint32 : changed (a_field 97 1 kind.Bool shape.Implicit) (a_field 97 1 kind.Uint32 shape.Implicit) ≡ Converts ∷ []
  bool_as_uint32 = refl

  string_as_bytes : changed (a_field 97 1 kind.Text shape.Implicit) (a_field 97 1 kind.Bytes shape.Implicit) ≡ Converts ∷ []
  string_as_bytes = refl

  zigzag_as_int32 : changed (a_field 97 1 kind.Sint32 shape.Implicit) (a_field 97 1 kind.Int32 shape.Implicit) ≡ BreaksReading ∷ []
  zigzag_as_int32 = refl

  fixed_as_signed : changed (a_field 97 1 kind.Fixed32 shape.Implicit) (a_field 97 1 kind.Sfixed32 shape.Implicit) ≡ BreaksReading ∷ []
  fixed_as_signed = refl

  bytes_as_message : changed (a_field 97 1 kind.Bytes shape.Explicit) (a_field 97 1 (kind.Message (record { 0 = 1 })) shape.Explicit) ≡ BreaksReading ∷ []
  bytes_as_message = refl

  -- FORMS

  -- the numbers of the kinds in descriptor.proto, and one more for a closed enum
  abbrev kinds : List Kind
  kinds =
      kind.Double ∷ kind.Float ∷ kind.Int64 ∷ kind.Uint64 ∷ kind.Int32 ∷ kind.Fixed64 ∷ kind.Fixed32 ∷ kind.Bool ∷ kind.Text ∷ kind.Group (record { 0 = 0 }) ∷ kind.Message (record { 0 = 0 })
      ∷ kind.Bytes ∷ kind.Uint32 ∷ kind.Enum (record { 0 = 0 }) ∷ kind.Sfixed32 ∷ kind.Sfixed64 ∷ kind.Sint32 ∷ kind.Sint64 ∷ kind.ClosedEnum (record { 0 = 0 }) ∷ []

  numbers_of_kinds : map kind_form kinds ≡ 1 ∷ 2 ∷ 3 ∷ 4 ∷ 5 ∷ 6 ∷ 7 ∷ 8 ∷ 9 ∷ 10 ∷ 11 ∷ 12 ∷ 13 ∷ 14 ∷ 15 ∷ 16 ∷ 17 ∷ 18 ∷ 19 ∷ []
  numbers_of_kinds = refl

  -- a list has one form, packed or not
  unpacked_list : changed (a_field 97 1 kind.Int32 (shape.List true)) (a_field 97 1 kind.Int32 (shape.List false)) ≡ []
  unpacked_list = refl

  -- the kind of the keys is of a map's form
  keys_as_another_kind : changed (a_field 97 1 kind.Text (shape.Map kind.Uint32)) (a_field 97 1 kind.Text (shape.Map kind.Uint64)) ≡ Converts ∷ []
  keys_as_another_kind = refl

  -- the name of a message is not
  another_message : changed (a_field 97 1 (kind.Message (record { 0 = 1 })) shape.Explicit) (a_field 97 1 (kind.Message (record { 0 = 2 })) shape.Explicit) ≡ []
  another_message = refl

  message_as_bytes : changed (a_field 97 1 (kind.Message (record { 0 = 1 })) shape.Explicit) (a_field 97 1 kind.Bytes shape.Explicit) ≡ Converts ∷ []
  message_as_bytes = refl

  message_as_group : changed (a_field 97 1 (kind.Message (record { 0 = 1 })) shape.Explicit) (a_field 97 1 (kind.Group (record { 0 = 1 })) shape.Explicit) ≡ BreaksReading ∷ []
  message_as_group = refl

  int32_as_enum : changed (a_field 97 1 kind.Int32 shape.Explicit) (a_field 97 1 (kind.Enum (record { 0 = 0 })) shape.Explicit) ≡ Converts ∷ []
  int32_as_enum = refl

-- enum E { A = 0; B = 1; }
abbrev an_enum : EnumView
an_enum = record { name = []; file = 0; parent = None; values = ([], pos 0) ∷ ([], pos 1) ∷ [] }

abbrev with_enum : Types
with_enum = record { files = []; messages = []; enums = an_enum ∷ [] }

-- a closed enum has another form than an open one
opened : severities with_enum with_enum (λ o. false) (a_field 97 1 (kind.ClosedEnum (record { 0 = 0 })) shape.Explicit) (Some (a_field 97 1 (kind.Enum (record { 0 = 0 })) shape.Explicit)) ≡ Converts ∷ []
opened = refl

still_closed : severities with_enum with_enum (λ o. false) (a_field 97 1 (kind.ClosedEnum (record { 0 = 0 })) shape.Explicit) (Some (a_field 97 1 (kind.ClosedEnum (record { 0 = 0 })) shape.Explicit)) ≡ []
still_closed = refl

bool_as_closed : severities with_enum with_enum (λ o. false) (a_field 97 1 kind.Bool shape.Explicit) (Some (a_field 97 1 (kind.ClosedEnum (record { 0 = 0 })) shape.Explicit)) ≡ Converts ∷ []
bool_as_closed = refl

-- enum E { B = 1; }, which declares no 0: false is not written where presence is implicit
abbrev with_one : Types
with_one = record { files = []; messages = []; enums = record { name = []; file = 0; parent = None; values = ([], pos 1) ∷ [] } ∷ [] }

true_as_one : severities with_one with_one (λ o. false) (a_field 97 1 kind.Bool shape.Implicit) (Some (a_field 97 1 (kind.ClosedEnum (record { 0 = 0 })) shape.Explicit)) ≡ ChangesPresence ∷ []
true_as_one = refl

false_as_one : severities with_one with_one (λ o. false) (a_field 97 1 kind.Bool shape.Explicit) (Some (a_field 97 1 (kind.ClosedEnum (record { 0 = 0 })) shape.Explicit)) ≡ BreaksReading ∷ []
false_as_one = refl
