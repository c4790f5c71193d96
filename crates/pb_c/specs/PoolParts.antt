-- What is reported of what a pool declares.
use Rattle.std.specs.Prelude.{◌≡◌, ℕ, ℤ, List, ◌++◌, Bool, true, false, Option, Some, None, length, slice_get, is_some, option_and_then}
use Rattle.pb_schema.specs.Names.{enum_names, message_names}
use Rattle.pb_schema.specs.Types.{EnumView, FieldView, FileView, MessageView, Types}
use Rattle.pb_schema.specs.declared.types.Shape.{Shape}
use Rattle.pb_schema.specs.declared.types.Shape.TheVariants as shape
use Rattle.pb_c.specs.Field.{field_report}
use Rattle.pb_c_answers.specs.Reporting.{IsLaid, laid_over}
use Rattle.pb_c.specs.declared.pool.field.FieldReport.{FieldReport}
use Rattle.pb_c.specs.declared.schema.counts.PoolCounts.{PoolCounts}
use Rattle.pb_c.specs.declared.schema.message_type.TypeReport.{TypeReport}
use Rattle.pb_c.specs.declared.schema.enum_type.EnumReport.{EnumReport}
use Rattle.pb_c.specs.declared.schema.file.FileReport.{FileReport}

-- how many files, message types and enums there are
abbrev pub pool_counts : Types → PoolCounts
pool_counts ts = record { files = length ts.files; messages = length ts.messages; enums = length ts.enums }

-- 1 where something is so, else 0
abbrev pub flag : Bool → ℕ
flag true = 1
flag false = 0

-- the number of the message type that something is declared in; outside of message types 0
abbrev pub parent_number : Option ℕ → ℕ
parent_number None = 0
parent_number (Some m) = m

abbrev pub type_report : MessageView → TypeReport
type_report t = record {
  file = t.file;
  nested = flag (is_some t.parent);
  parent = parent_number t.parent;
  fields = length t.fields;
  oneofs = length t.oneofs;
}

abbrev pub enum_report : EnumView → EnumReport
enum_report t = record { file = t.file; nested = flag (is_some t.parent); parent = parent_number t.parent; values = length t.values }

abbrev pub file_report : FileView → FileReport
file_report f = record {
  name_len = length f.name;
  package_len = length f.package_name;
  imports = length f.imports;
  proto2 = flag f.proto2;
}

-- what a shape says beside its number: of a member of a oneof the index of the oneof, of a list whether it is packed; of other shapes 0
abbrev pub shape_detail : Shape → ℕ
shape_detail shape.Implicit = 0
shape_detail shape.Explicit = 0
shape_detail (shape.OneofMember o) = o
shape_detail (shape.List packed) = flag packed
shape_detail (shape.Map key) = 0

-- The message type of a number has this report, and its full name is laid over the buffer.
pub record IsTypeAt (ts : Types) (m : ℕ) (report : TypeReport) (old new : List ℕ) (size : ℕ) : Type 0 where
  pub declared : MessageView
  pub there : slice_get ts.messages m ≡ Some declared
  pub reported : report ≡ type_report declared
  pub name : List ℕ
  pub named : slice_get (message_names ts) m ≡ Some name
  pub laid : IsLaid name old new size

-- the field at an index of a message type
abbrev pub field_at : Types → ℕ → ℕ → Option FieldView
field_at ts m i = option_and_then (λ t. slice_get t.fields i) (slice_get ts.messages m)

-- The field at an index of a message type has this report and this detail of its shape, and its name is laid over the buffer.
pub record IsFieldAt (ts : Types) (m i : ℕ) (report : FieldReport) (detail : ℕ) (old new : List ℕ) (size : ℕ) : Type 0 where
  pub declared : FieldView
  pub there : field_at ts m i ≡ Some declared
  pub reported : report ≡ field_report declared
  pub detailed : detail ≡ shape_detail declared.shape
  pub laid : IsLaid declared.name old new size

-- the name of the oneof at an index of a message type
abbrev pub oneof_at : Types → ℕ → ℕ → Option (List ℕ)
oneof_at ts m i = option_and_then (λ t. slice_get t.oneofs i) (slice_get ts.messages m)

-- The name of the oneof at an index of a message type is laid over the buffer.
pub record IsOneofAt (ts : Types) (m i : ℕ) (old new : List ℕ) (size : ℕ) : Type 0 where
  pub name : List ℕ
  pub there : oneof_at ts m i ≡ Some name
  pub laid : IsLaid name old new size

-- The enum of a number has this report, and its full name is laid over the buffer.
pub record IsEnumAt (ts : Types) (e : ℕ) (report : EnumReport) (old new : List ℕ) (size : ℕ) : Type 0 where
  pub declared : EnumView
  pub there : slice_get ts.enums e ≡ Some declared
  pub reported : report ≡ enum_report declared
  pub name : List ℕ
  pub named : slice_get (enum_names ts) e ≡ Some name
  pub laid : IsLaid name old new size

-- the name and the number of the value at an index of an enum
abbrev pub value_at : Types → ℕ → ℕ → Option (List ℕ × ℤ)
value_at ts e i = option_and_then (λ t. slice_get t.values i) (slice_get ts.enums e)

-- The value at an index of an enum has this number, and its name is laid over the buffer.
pub record IsValueAt (ts : Types) (e i : ℕ) (number : ℤ) (old new : List ℕ) (size : ℕ) : Type 0 where
  pub declared : List ℕ × ℤ
  pub there : value_at ts e i ≡ Some declared
  pub numbered : number ≡ declared.1
  pub laid : IsLaid declared.0 old new size

-- The file of an index has this report, and its name and after it its package are laid over the buffer.
pub record IsFileAt (ts : Types) (i : ℕ) (report : FileReport) (old new : List ℕ) : Type 0 where
  pub declared : FileView
  pub there : slice_get ts.files i ≡ Some declared
  pub reported : report ≡ file_report declared
  pub laid : new ≡ laid_over (declared.name ++ declared.package_name) old
