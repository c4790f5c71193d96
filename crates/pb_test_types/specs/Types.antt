-- The meaning of rows of types.
use Rattle.std.specs.Prelude.{ℕ, ℤ, Bool, List, [], Option, None, map}
use denote.Ref.{Bor}
use Rattle.pb_schema.specs.Types.{FieldView, MessageView, EnumView, FileView, Types}
use Rattle.pb_schema.specs.View.{parent_view}
use Rattle.pb_schema.specs.declared.types.Kind.{Kind}
use Rattle.pb_schema.specs.declared.types.Shape.{Shape}
use Rattle.pb_schema.specs.declared.types.MessageId.{MessageId}

abbrev pub Name : Type 0
Name = Bor (List ℕ)

abbrev pub FieldRow : Type 0
FieldRow = Name × ℕ × Kind × Shape

abbrev pub MessageRow : Type 0
MessageRow = Name × ℕ × Option MessageId × Bor (List FieldRow) × Bor (List Name)

abbrev pub EnumRow : Type 0
EnumRow = Name × ℕ × Bor (List (Name × ℤ))

abbrev pub FileRow : Type 0
FileRow = Name × Name × Bool

abbrev pub names_in : List Name → List (List ℕ)
names_in names = map (λ n. n.now) names

abbrev pub values_in : List (Name × ℤ) → List (List ℕ × ℤ)
values_in values = map (λ v. (v.0.now, v.1)) values

abbrev pub field_in : FieldRow → FieldView
field_in r = record { name = r.0.now; number = r.1; kind = r.2; shape = r.3 }

abbrev pub message_in : MessageRow → MessageView
message_in r = record { name = r.0.now; file = r.1; parent = parent_view r.2; fields = map field_in r.3.now; oneofs = names_in r.4.now }

-- an enum in no message
abbrev pub enum_in : EnumRow → EnumView
enum_in r = record { name = r.0.now; file = r.1; parent = None; values = values_in r.2.now }

-- a file that imports none
abbrev pub file_in : FileRow → FileView
file_in r = record { name = r.0.now; package_name = r.1.now; imports = []; proto2 = r.2 }

abbrev pub types_in : List FileRow → List MessageRow → List EnumRow → Types
types_in files messages enums = record { files = map file_in files; messages = map message_in messages; enums = map enum_in enums }
