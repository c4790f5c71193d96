-- What a record of a number and a wire type is for, by its parent.
use Rattle.std.specs.Prelude.{◌≡◌, ℕ, true, false, Option, Some, None, IsTrue}
use Rattle.pb_schema.specs.declared.types.Kind.{Kind}
use Rattle.pb_schema.specs.declared.types.Shape.{Shape}
use Rattle.pb_schema.specs.declared.types.Shape.TheVariants as shape
use Rattle.pb_schema.specs.Types.{FieldView, Types, message_fields, field_numbered}
use Rattle.pb_schema.specs.Kinds.{wire_type_of, is_packable, message_of_kind}
use Rattle.pb_schema.specs.Fits.{fits_type}
use Rattle.pb_schema.specs.Context.{Context, a_message, an_entry, unknown_group}
use Rattle.pb_decode_parts.specs.declared.open.part.Slot.TheVariants as slot
use Rattle.pb_decode_parts.specs.declared.open.target.Target.{Target}
use Rattle.pb_decode_parts.specs.declared.open.target.Target.TheVariants as target
use Rattle.pb_decode_parts.specs.Open.Parents.{Part, message_part, entry_part, group_part}

-- what a record is for that fits a field of one value, of this kind and number
abbrev pub OfSingle : Kind → Shape → ℕ → Target → Type 0
OfSingle k s n (target.One k2 s2) = (k2 ≡ k) × (s2 ≡ s) × (message_of_kind k ≡ None)
OfSingle k s n (target.Message m (slot.One s2 n2)) = (message_of_kind k ≡ Some m.0) × (s2 ≡ s) × (n2 ≡ n)
OfSingle k s n (target.Element k2) = ⊥
OfSingle k s n (target.Packed k2) = ⊥
OfSingle k s n (target.Message m (slot.List n2)) = ⊥
OfSingle k s n (target.Message m (slot.Map n2)) = ⊥
OfSingle k s n (target.Message m slot.Entry) = ⊥
OfSingle k s n (target.Message m (slot.Unknown n2)) = ⊥
OfSingle k s n (target.Entry key2 k2) = ⊥
OfSingle k s n (target.Key k2) = ⊥
OfSingle k s n (target.EntryValue k2) = ⊥
OfSingle k s n target.Unknown = ⊥

-- what a record of a wire type is for that fits a list
abbrev pub OfList : Kind → ℕ → ℕ → Target → Type 0
OfList k n w (target.Element k2) = (k2 ≡ k) × (message_of_kind k ≡ None) × (w ≡ wire_type_of k)
OfList k n w (target.Packed k2) = (k2 ≡ k) × (message_of_kind k ≡ None) × IsTrue (is_packable k) × (w ≡ 2)
OfList k n w (target.Message m (slot.List n2)) = (message_of_kind k ≡ Some m.0) × (n2 ≡ n)
OfList k n w (target.One k2 s2) = ⊥
OfList k n w (target.Message m (slot.One s2 n2)) = ⊥
OfList k n w (target.Message m (slot.Map n2)) = ⊥
OfList k n w (target.Message m slot.Entry) = ⊥
OfList k n w (target.Message m (slot.Unknown n2)) = ⊥
OfList k n w (target.Entry key2 k2) = ⊥
OfList k n w (target.Key k2) = ⊥
OfList k n w (target.EntryValue k2) = ⊥
OfList k n w target.Unknown = ⊥

-- what a record is for that fits a map
abbrev pub OfMap : Kind → Kind → Target → Type 0
OfMap key k (target.Entry key2 k2) = (key2 ≡ key) × (k2 ≡ k)
OfMap key k (target.One k2 s2) = ⊥
OfMap key k (target.Element k2) = ⊥
OfMap key k (target.Packed k2) = ⊥
OfMap key k (target.Message m s) = ⊥
OfMap key k (target.Key k2) = ⊥
OfMap key k (target.EntryValue k2) = ⊥
OfMap key k target.Unknown = ⊥

-- what a record is for that fits a field of this kind and shape
abbrev pub OfShape : Kind → Shape → ℕ → ℕ → Target → Type 0
OfShape k (shape.Map key) n w p = OfMap key k p
OfShape k (shape.List packed) n w p = OfList k n w p
OfShape k shape.Implicit n w p = OfSingle k shape.Implicit n p
OfShape k shape.Explicit n w p = OfSingle k shape.Explicit n p
OfShape k (shape.OneofMember o) n w p = OfSingle k (shape.OneofMember o) n p

abbrev pub OfField : FieldView → ℕ → ℕ → Target → Type 0
OfField f n w p = (fits_type f w ≡ true) × OfShape f.kind f.shape n w p

-- the record fits no field, and is unknown
abbrev pub IsUnknown : Target → Type 0
IsUnknown p = p ≡ target.Unknown

-- what a record is for that has the number of this field
abbrev pub AtField : Option FieldView → ℕ → ℕ → Target → Type 0
AtField None n w p = IsUnknown p
AtField (Some f) n w target.Unknown = fits_type f w ≡ false
AtField (Some f) n w (target.One k s) = OfField f n w (target.One k s)
AtField (Some f) n w (target.Element k) = OfField f n w (target.Element k)
AtField (Some f) n w (target.Packed k) = OfField f n w (target.Packed k)
AtField (Some f) n w (target.Message m s) = OfField f n w (target.Message m s)
AtField (Some f) n w (target.Entry key k) = OfField f n w (target.Entry key k)
AtField (Some f) n w (target.Key k) = OfField f n w (target.Key k)
AtField (Some f) n w (target.EntryValue k) = OfField f n w (target.EntryValue k)

-- what a record of an entry with these kinds is for
abbrev pub OfEntry : Kind → Kind → ℕ → ℕ → Target → Type 0
OfEntry key k n w (target.Key k2) = (k2 ≡ key) × (n ≡ 1) × (w ≡ wire_type_of key)
OfEntry key k n w (target.EntryValue k2) = (k2 ≡ k) × (n ≡ 2) × (w ≡ wire_type_of k) × (message_of_kind k ≡ None)
OfEntry key k n w (target.Message m slot.Entry) = (message_of_kind k ≡ Some m.0) × (n ≡ 2) × (w ≡ wire_type_of k)
OfEntry key k n w target.Unknown = (n ≡ 1 → w ≡ wire_type_of key → ⊥) × (n ≡ 2 → w ≡ wire_type_of k → ⊥)
OfEntry key k n w (target.One k2 s2) = ⊥
OfEntry key k n w (target.Element k2) = ⊥
OfEntry key k n w (target.Packed k2) = ⊥
OfEntry key k n w (target.Message m (slot.One s2 n2)) = ⊥
OfEntry key k n w (target.Message m (slot.List n2)) = ⊥
OfEntry key k n w (target.Message m (slot.Map n2)) = ⊥
OfEntry key k n w (target.Message m (slot.Unknown n2)) = ⊥
OfEntry key k n w (target.Entry key2 k2) = ⊥

-- the record is for no message
abbrev pub IsNoMessage : Target → Type 0
IsNoMessage (target.Message j s) = ⊥
IsNoMessage (target.One k s) = Unit {0}
IsNoMessage (target.Element k) = Unit {0}
IsNoMessage (target.Packed k) = Unit {0}
IsNoMessage (target.Entry key k) = Unit {0}
IsNoMessage (target.Key k) = Unit {0}
IsNoMessage (target.EntryValue k) = Unit {0}
IsNoMessage target.Unknown = Unit {0}

-- what a record is for in a context
abbrev pub Means : Types → Context → ℕ → ℕ → Target → Type 0
Means pool (a_message m) n w p = AtField (field_numbered n (message_fields pool m)) n w p
Means pool (an_entry key k) n w p = OfEntry key k n w p
Means pool unknown_group n w p = IsUnknown p

abbrev pub part_context : Part → Context
part_context (message_part m v) = a_message m
part_context (entry_part key k x d) = an_entry key k
part_context (group_part us) = unknown_group
