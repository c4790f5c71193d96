-- Which records fit which fields (encoding guide, "Message Structure", "Packed Repeated Fields", "Maps").
use Rattle.std.specs.Prelude.{ℕ, Bool, ◌==◌, ◌&&◌, ◌||◌, List, filter}
use Rattle.std.specs.List.{list_any}
use Rattle.pb_wire.specs.Record.{Record, wire_type}
use Rattle.pb_schema.specs.declared.types.Kind.{Kind}
use Rattle.pb_schema.specs.declared.types.Shape.{Shape}
use Rattle.pb_schema.specs.declared.types.Shape.TheVariants as shape
use Rattle.pb_schema.specs.Types.{FieldView}
use Rattle.pb_schema.specs.Kinds.{wire_type_of, is_packable}

-- the wire type is that of the kind, for a list that of a packed list too, and for a map that of its entries
abbrev pub fits_shape : Shape → Kind → ℕ → Bool
fits_shape (shape.Map _) k w = w == 2
fits_shape (shape.List _) k w = (w == wire_type_of k) || (is_packable k && (w == 2))
fits_shape shape.Explicit k w = w == wire_type_of k
fits_shape shape.Implicit k w = w == wire_type_of k
fits_shape (shape.OneofMember _) k w = w == wire_type_of k

abbrev pub fits_type : FieldView → ℕ → Bool
fits_type f w = fits_shape f.shape f.kind w

-- the record has the field's number, and a payload that fits
abbrev pub fits : FieldView → Record → Bool
fits f r = (r.number == f.number) && fits_type f (wire_type r.payload)

-- the records that fit a field, in order
abbrev pub fitting : FieldView → List Record → List Record
fitting f rs = filter (fits f) rs

-- the record fits one of the fields
abbrev pub fits_any : List FieldView → Record → Bool
fits_any fs r = list_any (λ f. fits f r) fs
