-- What a pool holds: files, message types and enums, each named by its index. Names are their bytes.
use Rattle.std.specs.Prelude.{ℕ, ℤ, List, [], Bool, false, Option, Some, None, find, slice_get, ◌==◌}
use Rattle.pb_schema.specs.declared.types.Kind.{Kind}
use Rattle.pb_schema.specs.declared.types.Shape.{Shape}

pub record FieldView : Type 0 where
  pub name : List ℕ
  pub number : ℕ
  pub kind : Kind
  pub shape : Shape

pub record MessageView : Type 0 where
  pub name : List ℕ
  pub file : ℕ
  pub parent : Option ℕ
  pub fields : List FieldView
  pub oneofs : List (List ℕ)

pub record EnumView : Type 0 where
  pub name : List ℕ
  pub file : ℕ
  pub parent : Option ℕ
  pub values : List (List ℕ × ℤ)

pub record FileView : Type 0 where
  pub name : List ℕ
  pub package_name : List ℕ
  pub imports : List ℕ
  pub proto2 : Bool

pub record Types : Type 0 where
  pub files : List FileView
  pub messages : List MessageView
  pub enums : List EnumView

abbrev pub proto2_of : Option FileView → Bool
proto2_of None = false
proto2_of (Some f) = f.proto2

-- the file at an index is of the syntax proto2
abbrev pub is_proto2 : List FileView → ℕ → Bool
is_proto2 files i = proto2_of (slice_get files i)

abbrev pub fields_of_message : Option MessageView → List FieldView
fields_of_message None = []
fields_of_message (Some t) = t.fields

-- the fields of a message type; an index out of range has none
abbrev pub message_fields : Types → ℕ → List FieldView
message_fields pool m = fields_of_message (slice_get pool.messages m)

-- the field of a number among some
abbrev pub field_numbered : ℕ → List FieldView → Option FieldView
field_numbered n fs = find (λ f. f.number == n) fs
