-- The types of the worked rows: T with a field of each shape, and F of flat fields.
use Rattle.std.proofs.Common.{ℕ, List, [], ◌∷◌}
use Rattle.std.specs.Prelude.{true, false, None}
use Rattle.pb_schema.specs.declared.types.Kind.{Kind}
use Rattle.pb_schema.specs.declared.types.Kind.TheVariants as kind
use Rattle.pb_schema.specs.declared.types.Shape.{Shape}
use Rattle.pb_schema.specs.declared.types.Shape.TheVariants as shape
use Rattle.pb_schema.specs.Types.{FieldView, Types}

abbrev pub the_field : ℕ → Kind → Shape → FieldView
the_field n k s = record { name = []; number = n; kind = k; shape = s }

abbrev pub a_type : ℕ → Kind
a_type m = kind.Message (record { 0 = m })

-- T, and F with an enum E
abbrev pub t_fields : List FieldView
t_fields =
    the_field 1 kind.Int32 shape.Implicit ∷ the_field 2 kind.Text shape.Implicit ∷ the_field 3 (a_type 0) shape.Explicit
    ∷ the_field 4 kind.Double shape.Implicit ∷ the_field 6 kind.Int32 (shape.List true) ∷ the_field 7 kind.Uint32 (shape.OneofMember 0)
    ∷ the_field 8 (a_type 0) (shape.OneofMember 0) ∷ the_field 9 kind.Int32 (shape.Map kind.Text) ∷ the_field 10 kind.Bool shape.Explicit
    ∷ the_field 11 kind.Sint32 shape.Implicit ∷ the_field 12 (a_type 0) (shape.Map kind.Uint32) ∷ []

abbrev pub f_fields : List FieldView
f_fields =
    the_field 1 kind.Int32 shape.Implicit ∷ the_field 2 kind.Text shape.Implicit ∷ the_field 4 kind.Double shape.Implicit
    ∷ the_field 6 kind.Int32 (shape.List true) ∷ the_field 10 kind.Bool shape.Explicit ∷ the_field 11 kind.Sint32 shape.Implicit
    ∷ the_field 13 kind.Text (shape.List false) ∷ the_field 14 kind.Sint32 (shape.List false) ∷ the_field 15 kind.Bytes shape.Implicit
    ∷ the_field 16 kind.Float shape.Implicit ∷ the_field 17 (kind.Enum (record { 0 = 0 })) shape.Implicit
    ∷ the_field 18 kind.Fixed32 (shape.List true) ∷ []

abbrev pub pool : Types
pool = record {
  files = [];
  messages = record { name = []; file = 0; parent = None; fields = t_fields; oneofs = [] ∷ [] } ∷ record { name = []; file = 0; parent = None; fields = f_fields; oneofs = [] } ∷ [];
  enums = [];
}

-- U, with two oneofs, a list of messages, an optional message, and maps in two orders of keys
abbrev pub u_fields : List FieldView
u_fields =
    the_field 1 kind.Int32 shape.Implicit ∷ the_field 2 (a_type 0) (shape.OneofMember 0) ∷ the_field 3 kind.Int32 (shape.OneofMember 0)
    ∷ the_field 4 (a_type 0) (shape.OneofMember 1) ∷ the_field 5 kind.Int32 (shape.OneofMember 1) ∷ the_field 6 (a_type 0) (shape.List false)
    ∷ the_field 7 (a_type 0) shape.Explicit ∷ the_field 8 kind.Int32 (shape.Map kind.Int32) ∷ the_field 9 kind.Int32 (shape.Map kind.Bool)
    ∷ the_field 10 kind.Int32 shape.Explicit ∷ []

abbrev pub wide_pool : Types
wide_pool = record {
  files = [];
  messages = record { name = []; file = 0; parent = None; fields = u_fields; oneofs = [] ∷ [] ∷ [] } ∷ [];
  enums = [];
}
