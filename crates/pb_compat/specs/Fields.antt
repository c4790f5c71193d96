-- What a change of a field does to messages of the old type that the new type reads (language guide, "Updating A Message Type").
use Rattle.std.specs.Prelude.{ℕ, ◌+◌, pos, List, [], ◌∷◌, ◌++◌, Bool, true, false, not, ◌==◌, ◌&&◌, ◌||◌, Option, Some, None, map, if◌then◌else◌}
use Rattle.std.specs.Option.{option_to_list}
use Rattle.std.specs.Str.{bytes_eq}
use Rattle.pb_schema.specs.declared.types.Kind.{Kind}
use Rattle.pb_schema.specs.declared.types.Kind.TheVariants as kind
use Rattle.pb_schema.specs.declared.types.Shape.{Shape}
use Rattle.pb_schema.specs.declared.types.Shape.TheVariants as shape
use Rattle.pb_schema.specs.Types.{FieldView, Types, message_fields, field_numbered}
use Rattle.pb_schema.specs.Kinds.{is_group}
use Rattle.pb_schema.specs.Closed.{declares}
use Rattle.pb_value.specs.Judge.Forms.{is_implicit}
use Rattle.pb_compat.specs.declared.difference.Severity.{Severity}
use Rattle.pb_compat.specs.declared.difference.Severity.TheVariants.{BreaksReading, Loses, ChangesPresence, Converts, Renames}
use Rattle.pb_compat.specs.declared.difference.Difference.{Difference}
use Rattle.pb_compat.specs.Scalars.{declares_others, keeps_scalars}
use Rattle.pb_compat.specs.Oneofs.{is_crowded}

-- KINDS

abbrev pub is_message : Kind → Bool
is_message (kind.Message _) = true
is_message _ = false

abbrev pub is_bytes : Kind → Bool
is_bytes kind.Bytes = true
is_bytes _ = false

-- Values of the old kind are kept. Whether a message keeps what is in it is asked of its fields; read as bytes it is its encoding. The
-- records of a group are between tags and those of a message after their length, so neither is read as the other.
abbrev pub keeps_kind : Types → Types → Kind → Kind → Bool
keeps_kind old new (kind.Message _) b = is_message b || is_bytes b
keeps_kind old new (kind.Group _) b = is_group b
keeps_kind old new kind.Double b = keeps_scalars old new kind.Double b
keeps_kind old new kind.Float b = keeps_scalars old new kind.Float b
keeps_kind old new kind.Int64 b = keeps_scalars old new kind.Int64 b
keeps_kind old new kind.Uint64 b = keeps_scalars old new kind.Uint64 b
keeps_kind old new kind.Int32 b = keeps_scalars old new kind.Int32 b
keeps_kind old new kind.Fixed64 b = keeps_scalars old new kind.Fixed64 b
keeps_kind old new kind.Fixed32 b = keeps_scalars old new kind.Fixed32 b
keeps_kind old new kind.Bool b = keeps_scalars old new kind.Bool b
keeps_kind old new kind.Text b = keeps_scalars old new kind.Text b
keeps_kind old new kind.Bytes b = keeps_scalars old new kind.Bytes b
keeps_kind old new kind.Uint32 b = keeps_scalars old new kind.Uint32 b
keeps_kind old new kind.Sfixed32 b = keeps_scalars old new kind.Sfixed32 b
keeps_kind old new kind.Sfixed64 b = keeps_scalars old new kind.Sfixed64 b
keeps_kind old new kind.Sint32 b = keeps_scalars old new kind.Sint32 b
keeps_kind old new kind.Sint64 b = keeps_scalars old new kind.Sint64 b
keeps_kind old new (kind.Enum e) b = keeps_scalars old new (kind.Enum e) b
keeps_kind old new (kind.ClosedEnum e) b = keeps_scalars old new (kind.ClosedEnum e) b

-- All values of the old kind but its default are kept: of a bool true, and of an int32 or an open enum each number but 0. Other kinds that keep
-- these keep the default too.
abbrev pub keeps_others : Types → Kind → Kind → Bool
keeps_others new kind.Bool (kind.ClosedEnum e) = declares new e.0 (pos 1)
keeps_others new kind.Int32 (kind.ClosedEnum e) = declares_others new e.0
keeps_others new (kind.Enum _) (kind.ClosedEnum e) = declares_others new e.0
keeps_others new _ _ = false

-- values of the old field are kept; with implicit presence its default is not written
abbrev pub keeps_values : Types → Types → FieldView → FieldView → Bool
keeps_values old new f g = keeps_kind old new f.kind g.kind || (is_implicit f.shape && keeps_others new f.kind g.kind)

-- SHAPES

abbrev pub is_map_keeping : Types → Types → Kind → Shape → Bool
is_map_keeping old new key (shape.Map other) = keeps_kind old new key other
is_map_keeping old new key _ = false

abbrev pub is_list : Shape → Bool
is_list (shape.List _) = true
is_list _ = false

abbrev pub is_map : Shape → Bool
is_map (shape.Map _) = true
is_map _ = false

-- One value is read as one, or as a list of one. A list is read as a list: as one value it would be its last element. A map is read as a map
-- whose keys are kept.
abbrev pub keeps_shape : Types → Types → Shape → Shape → Bool
keeps_shape old new shape.Implicit t = not (is_map t)
keeps_shape old new shape.Explicit t = not (is_map t)
keeps_shape old new (shape.OneofMember _) t = not (is_map t)
keeps_shape old new (shape.List _) t = is_list t
keeps_shape old new (shape.Map key) t = is_map_keeping old new key t

-- the field is a member of a oneof that is crowded: an old message may set two of its members
abbrev pub is_in_crowd : (ℕ → Bool) → Shape → Bool
is_in_crowd crowded (shape.OneofMember o) = crowded o
is_in_crowd crowded shape.Implicit = false
is_in_crowd crowded shape.Explicit = false
is_in_crowd crowded (shape.List _) = false
is_in_crowd crowded (shape.Map _) = false

-- PRESENCE AND FORM

-- whether one value counts as set also if it is the default; other shapes have no such value
abbrev pub presence : Shape → Option Bool
presence shape.Implicit = Some false
presence shape.Explicit = Some true
presence (shape.OneofMember _) = Some true
presence (shape.List _) = None
presence (shape.Map _) = None

abbrev pub changes_presence : Option Bool → Option Bool → Bool
changes_presence (Some true) (Some false) = true
changes_presence (Some false) (Some true) = true
changes_presence _ _ = false

-- a kind without the type that it names, as its number in descriptor.proto; a closed enum has a number of its own
abbrev pub kind_form : Kind → ℕ
kind_form kind.Double = 1
kind_form kind.Float = 2
kind_form kind.Int64 = 3
kind_form kind.Uint64 = 4
kind_form kind.Int32 = 5
kind_form kind.Fixed64 = 6
kind_form kind.Fixed32 = 7
kind_form kind.Bool = 8
kind_form kind.Text = 9
kind_form (kind.Group _) = 10
kind_form (kind.Message _) = 11
kind_form kind.Bytes = 12
kind_form kind.Uint32 = 13
kind_form (kind.Enum _) = 14
kind_form kind.Sfixed32 = 15
kind_form kind.Sfixed64 = 16
kind_form kind.Sint32 = 17
kind_form kind.Sint64 = 18
kind_form (kind.ClosedEnum _) = 19

-- a shape without its oneof, and whether or not a list is packed
abbrev pub shape_form : Shape → ℕ
shape_form shape.Implicit = 0
shape_form shape.Explicit = 1
shape_form (shape.OneofMember _) = 2
shape_form (shape.List _) = 3
shape_form (shape.Map key) = 4 + kind_form key

-- DIFFERENCES

-- whether a field is a member of a crowded oneof is `crowded`
abbrev pub keeps_field : Types → Types → Bool → FieldView → FieldView → Bool
keeps_field old new crowded f g = keeps_values old new f g && keeps_shape old new f.shape g.shape && not crowded

abbrev pub is_same_form : FieldView → FieldView → Bool
is_same_form f g = (kind_form f.kind == kind_form g.kind) && (shape_form f.shape == shape_form g.shape)

-- the change of a field that the new type has too
abbrev pub change_of_field : Types → Types → Bool → FieldView → FieldView → Option Severity
change_of_field old new crowded f g =
    if not (keeps_field old new crowded f g) then Some BreaksReading
    else (if changes_presence (presence f.shape) (presence g.shape) then Some ChangesPresence
    else (if is_same_form f g then None else Some Converts))

abbrev pub renaming_of : FieldView → FieldView → List Severity
renaming_of f g = if not (bytes_eq f.name g.name) then Renames ∷ [] else []

-- what the change of a field does, where each oneof of the new type is crowded or not
abbrev pub severities : Types → Types → (ℕ → Bool) → FieldView → Option FieldView → List Severity
severities old new crowded f None = Loses ∷ []
severities old new crowded f (Some g) = option_to_list (change_of_field old new (is_in_crowd crowded g.shape) f g) ++ renaming_of f g

abbrev pub severities_at : Types → Types → (ℕ → Bool) → Option FieldView → Option FieldView → List Severity
severities_at old new crowded None g = []
severities_at old new crowded (Some f) g = severities old new crowded f g

-- differences at the fields of a number
abbrev pub differences_of : ℕ → List Severity → List Difference
differences_of k severities = map (λ s. record { number = k; severity = s }) severities

-- the differences between the fields of a number in a type of the old pool and one of the new pool
abbrev pub differences_at : Types → Types → ℕ → ℕ → ℕ → List Difference
differences_at old new m n k =
    let fs = message_fields old m in
    let gs = message_fields new n in
    differences_of k (severities_at old new (is_crowded fs gs) (field_numbered k fs) (field_numbered k gs))
