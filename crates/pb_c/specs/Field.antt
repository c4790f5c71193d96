-- What is reported of a field.
use Rattle.std.specs.Prelude.{ℕ}
use Rattle.pb_schema.specs.Types.{FieldView}
use Rattle.pb_schema.specs.declared.types.Kind.{Kind}
use Rattle.pb_schema.specs.declared.types.Kind.TheVariants as kind
use Rattle.pb_schema.specs.declared.types.Shape.{Shape}
use Rattle.pb_schema.specs.declared.types.Shape.TheVariants as shape
use Rattle.pb_c.specs.declared.pool.field.FieldReport.{FieldReport}

-- the number of a type in descriptor.proto
abbrev pub kind_number : Kind → ℕ
kind_number kind.Double = 1
kind_number kind.Float = 2
kind_number kind.Int64 = 3
kind_number kind.Uint64 = 4
kind_number kind.Int32 = 5
kind_number kind.Fixed64 = 6
kind_number kind.Fixed32 = 7
kind_number kind.Bool = 8
kind_number kind.Text = 9
kind_number (kind.Group m) = 10
kind_number (kind.Message m) = 11
kind_number kind.Bytes = 12
kind_number kind.Uint32 = 13
kind_number (kind.Enum e) = 14
kind_number (kind.ClosedEnum e) = 14
kind_number kind.Sfixed32 = 15
kind_number kind.Sfixed64 = 16
kind_number kind.Sint32 = 17
kind_number kind.Sint64 = 18

-- the number of the message type or the enum that a kind names; of other kinds 0
abbrev pub type_number : Kind → ℕ
type_number kind.Double = 0
type_number kind.Float = 0
type_number kind.Int64 = 0
type_number kind.Uint64 = 0
type_number kind.Int32 = 0
type_number kind.Fixed64 = 0
type_number kind.Fixed32 = 0
type_number kind.Bool = 0
type_number kind.Text = 0
type_number (kind.Group m) = m.0
type_number (kind.Message m) = m.0
type_number kind.Bytes = 0
type_number kind.Uint32 = 0
type_number (kind.Enum e) = e.0
type_number (kind.ClosedEnum e) = e.0
type_number kind.Sfixed32 = 0
type_number kind.Sfixed64 = 0
type_number kind.Sint32 = 0
type_number kind.Sint64 = 0

-- one value of implicit presence, one of explicit presence, one of a oneof, a list, a map
abbrev pub shape_number : Shape → ℕ
shape_number shape.Implicit = 0
shape_number shape.Explicit = 1
shape_number (shape.OneofMember o) = 2
shape_number (shape.List packed) = 3
shape_number (shape.Map key) = 4

-- the number of the kind of a map's keys; of other shapes 0
abbrev pub key_number : Shape → ℕ
key_number shape.Implicit = 0
key_number shape.Explicit = 0
key_number (shape.OneofMember o) = 0
key_number (shape.List packed) = 0
key_number (shape.Map key) = kind_number key

abbrev pub field_report : FieldView → FieldReport
field_report f = record {
  number = f.number;
  kind = kind_number f.kind;
  shape = shape_number f.shape;
  key = key_number f.shape;
  type_of = type_number f.kind;
}
