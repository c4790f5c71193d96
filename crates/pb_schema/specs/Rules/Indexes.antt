-- The rules of indexes: each names something, and what is declared in a message is in its file.
use Rattle.std.specs.Prelude.{◌≡◌, ℕ, ◌<◌, List, length, Option, IfSome, IsSomeAnd, slice_get}
use Rattle.std.specs.List.{AllByRecursion}
use Rattle.pb_schema.specs.declared.types.Kind.{Kind}
use Rattle.pb_schema.specs.declared.types.Kind.TheVariants as kind
use Rattle.pb_schema.specs.declared.types.Shape.{Shape}
use Rattle.pb_schema.specs.declared.types.Shape.TheVariants as shape
use Rattle.pb_schema.specs.Types.{MessageView, EnumView, FileView, Types}
use Rattle.pb_schema.specs.Rules.Each.{EachField}

abbrev pub MessagesHaveFiles : List FileView → List MessageView → Type 0
MessagesHaveFiles files ms = AllByRecursion (λ t. t.file < length files) ms

abbrev pub EnumsHaveFiles : List FileView → List EnumView → Type 0
EnumsHaveFiles files es = AllByRecursion (λ e. e.file < length files) es

-- what is declared in a message is in the message's file
abbrev pub IsInFileOfParent : List MessageView → ℕ → Option ℕ → Type 0
IsInFileOfParent ms file parent = IfSome parent (λ p. IsSomeAnd (slice_get ms p) (λ t. t.file ≡ file))

abbrev pub MessagesShareFileWithParent : List MessageView → Type 0
MessagesShareFileWithParent ms = AllByRecursion (λ t. IsInFileOfParent ms t.file t.parent) ms

abbrev pub EnumsShareFileWithParent : List MessageView → List EnumView → Type 0
EnumsShareFileWithParent ms es = AllByRecursion (λ e. IsInFileOfParent ms e.file e.parent) es

-- the kind names one of this many messages or enums, or neither
abbrev pub NamesType : ℕ → ℕ → Kind → Type 0
NamesType messages enums (kind.Enum e) = e.0 < enums
NamesType messages enums (kind.Message m) = m.0 < messages
NamesType messages enums (kind.Group m) = m.0 < messages
NamesType messages enums (kind.ClosedEnum e) = e.0 < enums
NamesType messages enums kind.Double = Unit {0}
NamesType messages enums kind.Float = Unit {0}
NamesType messages enums kind.Int64 = Unit {0}
NamesType messages enums kind.Uint64 = Unit {0}
NamesType messages enums kind.Int32 = Unit {0}
NamesType messages enums kind.Fixed64 = Unit {0}
NamesType messages enums kind.Fixed32 = Unit {0}
NamesType messages enums kind.Bool = Unit {0}
NamesType messages enums kind.Text = Unit {0}
NamesType messages enums kind.Bytes = Unit {0}
NamesType messages enums kind.Uint32 = Unit {0}
NamesType messages enums kind.Sfixed32 = Unit {0}
NamesType messages enums kind.Sfixed64 = Unit {0}
NamesType messages enums kind.Sint32 = Unit {0}
NamesType messages enums kind.Sint64 = Unit {0}

abbrev pub KindsNameTypes : List MessageView → List EnumView → Type 0
KindsNameTypes ms es = EachField (λ t f. NamesType (length ms) (length es) f.kind) ms

abbrev pub NamesOneof : ℕ → Shape → Type 0
NamesOneof oneofs (shape.OneofMember o) = o < oneofs
NamesOneof oneofs shape.Explicit = Unit {0}
NamesOneof oneofs shape.Implicit = Unit {0}
NamesOneof oneofs (shape.List _) = Unit {0}
NamesOneof oneofs (shape.Map _) = Unit {0}

abbrev pub MembersNameOneofs : List MessageView → Type 0
MembersNameOneofs ms = EachField (λ t f. NamesOneof (length t.oneofs) f.shape) ms

pub record IndexRules (ts : Types) : Type 0 where
  pub message_files : MessagesHaveFiles ts.files ts.messages
  pub enum_files : EnumsHaveFiles ts.files ts.enums
  pub message_parents : MessagesShareFileWithParent ts.messages
  pub enum_parents : EnumsShareFileWithParent ts.messages ts.enums
  pub kinds : KindsNameTypes ts.messages ts.enums
  pub members : MembersNameOneofs ts.messages
