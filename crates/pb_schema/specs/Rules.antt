-- The rules of a pool, all of them (language specification, proto3; descriptor.proto).
pub mod Files
pub mod Indexes
pub mod Order
pub mod Names
pub mod Shapes
pub mod Fields
pub mod Syntax
pub mod Each
pub use Rattle.pb_schema.specs.Rules.Files.{FilesAreNamed, FileNamesDiffer, PackagesAreWords, ImportsAreFew, ImportsNameFiles, NoFileReachesItself, FileRules}
pub use Rattle.pb_schema.specs.Rules.Indexes.{MessagesHaveFiles, EnumsHaveFiles, IsInFileOfParent, MessagesShareFileWithParent}
pub use Rattle.pb_schema.specs.Rules.Indexes.{EnumsShareFileWithParent, NamesType, KindsNameTypes, NamesOneof, MembersNameOneofs, IndexRules}
pub use Rattle.pb_schema.specs.Rules.Order.{InOrder, FilesRise, FollowsParent, MessagesStandInOrder, EndsNoLater, StandsBefore, EnumsStandInOrder}
pub use Rattle.pb_schema.specs.Rules.Names.{AreWords, MessageIsOfWords, MessageNamesAreWords, EnumIsOfWords, EnumNamesAreWords}
pub use Rattle.pb_schema.specs.Rules.Names.{FullNamesDiffer, IsFree, PackagesAreFree, NameRules}
pub use Rattle.pb_schema.specs.Rules.Shapes.{IsFieldNumber, NumbersAreFieldNumbers, HasKeyKind, KeysAreKeyKinds, MayBePacked, PackedArePackable}
pub use Rattle.pb_schema.specs.Rules.Shapes.{MayBeValue, ValuesMayStand, MayBeImplicit, ImplicitAreScalars, ShapeRules}
pub use Rattle.pb_schema.specs.Rules.Fields.{FieldNumbersDiffer, NumbersDiffer, TypeIsSeen, FieldsSeeTypes, TypesAreSeen, IsMemberOf}
pub use Rattle.pb_schema.specs.Rules.Fields.{HasMember, EachOneofHasMember, OneofsHaveMembers, FieldRules}
pub use Rattle.pb_schema.specs.Rules.Syntax.{IsNotImplicit, MayStandIn, FieldsGoWithSyntax, EnumIsRight, EnumsGoWithSyntax}
pub use Rattle.pb_schema.specs.Rules.Syntax.{BeginsRight, EnumsBeginRight, SyntaxRules}
pub use Rattle.pb_schema.specs.Rules.Each.{EachField}
use Rattle.std.specs.Prelude.{ℕ, length, IfSome, slice_get}
use Rattle.pb_schema.specs.Types.{FieldView, Types}

-- ALL OF THEM
pub record IsPool (ts : Types) : Type 0 where
  pub files : FileRules ts.files
  pub indexes : IndexRules ts
  pub messages_in_order : MessagesStandInOrder ts.messages
  pub enums_in_order : EnumsStandInOrder ts.messages ts.enums
  pub names : NameRules ts
  pub fields : FieldRules ts
  pub syntax : SyntaxRules ts

-- what the rules say of a field of a message: its number, its kind and its key name what they should, and its shape goes with its kind
pub record IsFieldOf (ts : Types) (m : ℕ) (f : FieldView) : Type 0 where
  pub number : IsFieldNumber f.number
  pub kind : NamesType (length ts.messages) (length ts.enums) f.kind
  pub oneof : IfSome (slice_get ts.messages m) (λ t. NamesOneof (length t.oneofs) f.shape)
  pub key : HasKeyKind f.shape
  pub packed : MayBePacked f.shape f.kind
  pub implicit : MayBeImplicit f.shape f.kind
  pub value : MayBeValue f.shape f.kind
