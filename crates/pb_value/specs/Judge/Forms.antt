-- Which values are of which kind, and which contents of which shape, by their variants.
use Rattle.std.specs.Prelude.{Bool, true, false, ◌&&◌}
use Rattle.pb_schema.specs.declared.types.Kind.{Kind}
use Rattle.pb_schema.specs.declared.types.Kind.TheVariants as kind
use Rattle.pb_schema.specs.declared.types.Shape.{Shape}
use Rattle.pb_schema.specs.declared.types.Shape.TheVariants as shape
use Rattle.pb_schema.specs.Scalar.{Scalar, int32, int64, uint32, uint64, boolean, float, double, enum, text, bytes, is_default}
use Rattle.pb_schema.specs.Kinds.{IsOfKind}
use Rattle.pb_value.specs.Data.{Datum, scalar, message, Datums, no_datums, datum, Entries, no_entries, entry, Holding, one, list, map}

-- the form of a scalar's kind
abbrev pub is_scalar_of : Kind → Scalar → Bool
is_scalar_of kind.Int32 (int32 z) = true
is_scalar_of kind.Int64 (int64 z) = true
is_scalar_of kind.Uint32 (uint32 n) = true
is_scalar_of kind.Uint64 (uint64 n) = true
is_scalar_of kind.Sint32 (int32 z) = true
is_scalar_of kind.Sint64 (int64 z) = true
is_scalar_of kind.Bool (boolean b) = true
is_scalar_of (kind.Enum _) (enum z) = true
is_scalar_of (kind.ClosedEnum _) (enum z) = true
is_scalar_of kind.Fixed64 (uint64 n) = true
is_scalar_of kind.Sfixed64 (int64 z) = true
is_scalar_of kind.Double (double n) = true
is_scalar_of kind.Fixed32 (uint32 n) = true
is_scalar_of kind.Sfixed32 (int32 z) = true
is_scalar_of kind.Float (float n) = true
is_scalar_of kind.Text (text s) = true
is_scalar_of kind.Bytes (bytes s) = true
is_scalar_of kind.Double x = false
is_scalar_of kind.Float x = false
is_scalar_of kind.Int64 x = false
is_scalar_of kind.Uint64 x = false
is_scalar_of kind.Int32 x = false
is_scalar_of kind.Fixed64 x = false
is_scalar_of kind.Fixed32 x = false
is_scalar_of kind.Bool x = false
is_scalar_of kind.Text x = false
is_scalar_of kind.Bytes x = false
is_scalar_of kind.Uint32 x = false
is_scalar_of kind.Sfixed32 x = false
is_scalar_of kind.Sfixed64 x = false
is_scalar_of kind.Sint32 x = false
is_scalar_of kind.Sint64 x = false
is_scalar_of (kind.Enum _) x = false
is_scalar_of (kind.Message _) x = false
is_scalar_of (kind.Group _) x = false
is_scalar_of (kind.ClosedEnum _) x = false

abbrev pub is_message_kind : Kind → Bool
is_message_kind kind.Double = false
is_message_kind kind.Float = false
is_message_kind kind.Int64 = false
is_message_kind kind.Uint64 = false
is_message_kind kind.Int32 = false
is_message_kind kind.Fixed64 = false
is_message_kind kind.Fixed32 = false
is_message_kind kind.Bool = false
is_message_kind kind.Text = false
is_message_kind kind.Bytes = false
is_message_kind kind.Uint32 = false
is_message_kind kind.Sfixed32 = false
is_message_kind kind.Sfixed64 = false
is_message_kind kind.Sint32 = false
is_message_kind kind.Sint64 = false
is_message_kind (kind.Enum _) = false
is_message_kind (kind.Message _) = true
is_message_kind (kind.Group _) = true
is_message_kind (kind.ClosedEnum _) = false

-- a value of the kind; what a message holds is not looked into
abbrev pub is_value_of : Kind → Datum → Bool
is_value_of k (scalar x) = is_scalar_of k x
is_value_of k (message b) = is_message_kind k

abbrev pub are_values_of : Kind → Datums → Bool
are_values_of k no_datums = true
are_values_of k (datum d ds) = is_value_of k d && are_values_of k ds

-- the key of a map; where the field is no map, no key is judged
abbrev pub is_key_of : Shape → Scalar → Bool
is_key_of (shape.Map key) x = is_scalar_of key x
is_key_of shape.Implicit x = true
is_key_of shape.Explicit x = true
is_key_of (shape.OneofMember _) x = true
is_key_of (shape.List _) x = true

abbrev pub are_entries_of : Shape → Kind → Entries → Bool
are_entries_of s k no_entries = true
are_entries_of s k (entry x d es) = is_key_of s x && is_value_of k d && are_entries_of s k es

-- each value of a content is of the kind, and each key of the shape's
abbrev pub holds_kind : Shape → Kind → Holding → Bool
holds_kind s k (one d) = is_value_of k d
holds_kind s k (list ds) = are_values_of k ds
holds_kind s k (map es) = are_entries_of s k es

-- a content is one value, a list or a map as the shape says
abbrev pub has_shape : Shape → Holding → Bool
has_shape shape.Implicit (one d) = true
has_shape shape.Explicit (one d) = true
has_shape (shape.OneofMember _) (one d) = true
has_shape (shape.List _) (list ds) = true
has_shape (shape.Map _) (map es) = true
has_shape shape.Implicit (list ds) = false
has_shape shape.Implicit (map es) = false
has_shape shape.Explicit (list ds) = false
has_shape shape.Explicit (map es) = false
has_shape (shape.OneofMember _) (list ds) = false
has_shape (shape.OneofMember _) (map es) = false
has_shape (shape.List _) (one d) = false
has_shape (shape.List _) (map es) = false
has_shape (shape.Map _) (one d) = false
has_shape (shape.Map _) (list ds) = false

abbrev pub is_default_datum : Datum → Bool
is_default_datum (scalar x) = is_default x
is_default_datum (message b) = false

abbrev pub is_implicit : Shape → Bool
is_implicit shape.Implicit = true
is_implicit shape.Explicit = false
is_implicit (shape.OneofMember _) = false
is_implicit (shape.List _) = false
is_implicit (shape.Map _) = false

-- what an absent field has too: an implicit field's default, an empty list, an empty map
abbrev pub is_absence : Shape → Holding → Bool
is_absence s (one d) = is_implicit s && is_default_datum d
is_absence s (list no_datums) = true
is_absence s (list (datum d ds)) = false
is_absence s (map no_entries) = true
is_absence s (map (entry x d es)) = false

-- a scalar is of the kind, in the kind's range
abbrev pub IsWithin : Kind → Datum → Type 0
IsWithin k (scalar x) = IsOfKind k x
IsWithin k (message b) = Unit {0}

abbrev pub IsKeyWithin : Shape → Scalar → Type 0
IsKeyWithin (shape.Map key) x = IsOfKind key x
IsKeyWithin shape.Implicit x = Unit {0}
IsKeyWithin shape.Explicit x = Unit {0}
IsKeyWithin (shape.OneofMember _) x = Unit {0}
IsKeyWithin (shape.List _) x = Unit {0}
