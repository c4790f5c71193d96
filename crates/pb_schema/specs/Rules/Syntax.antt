-- The rules of the syntax of files: what is allowed in files of proto2 alone, what in those of proto3 alone, and how their enums begin (language
-- specification, proto2, "Groups", "Enumerations"; proto3, "Enumerations").
use Rattle.std.specs.Prelude.{◌≡◌, ℕ, ℤ, pos, List, [], ◌∷◌, Bool, true, false, IfSome, slice_get}
use Rattle.std.specs.List.{AllByRecursion}
use Rattle.pb_schema.specs.declared.types.Kind.{Kind}
use Rattle.pb_schema.specs.declared.types.Kind.TheVariants as kind
use Rattle.pb_schema.specs.declared.types.Shape.{Shape}
use Rattle.pb_schema.specs.declared.types.Shape.TheVariants as shape
use Rattle.pb_schema.specs.Types.{MessageView, EnumView, FileView, Types, is_proto2}
use Rattle.pb_schema.specs.Kinds.{is_of_proto2}
use Rattle.pb_schema.specs.Rules.Each.{EachField}

abbrev pub IsNotImplicit : Shape → Type 0
IsNotImplicit shape.Implicit = ⊥
IsNotImplicit shape.Explicit = Unit {0}
IsNotImplicit (shape.OneofMember _) = Unit {0}
IsNotImplicit (shape.List _) = Unit {0}
IsNotImplicit (shape.Map _) = Unit {0}

-- A field in a file of proto2 always says whether it is set; groups and closed enums are allowed there alone.
abbrev pub MayStandIn : Bool → Shape → Kind → Type 0
MayStandIn true s k = IsNotImplicit s
MayStandIn false s k = is_of_proto2 k ≡ false

abbrev pub FieldsGoWithSyntax : List FileView → List MessageView → Type 0
FieldsGoWithSyntax files ms = EachField (λ t f. MayStandIn (is_proto2 files t.file) f.shape f.kind) ms

-- the enums of proto2 are closed, and those of proto3 open
abbrev pub EnumIsRight : List FileView → List EnumView → Kind → Type 0
EnumIsRight files es (kind.Enum e) = IfSome (slice_get es e.0) (λ t. is_proto2 files t.file ≡ false)
EnumIsRight files es (kind.ClosedEnum e) = IfSome (slice_get es e.0) (λ t. is_proto2 files t.file ≡ true)
EnumIsRight files es (kind.Message _) = Unit {0}
EnumIsRight files es (kind.Group _) = Unit {0}
EnumIsRight files es kind.Double = Unit {0}
EnumIsRight files es kind.Float = Unit {0}
EnumIsRight files es kind.Int64 = Unit {0}
EnumIsRight files es kind.Uint64 = Unit {0}
EnumIsRight files es kind.Int32 = Unit {0}
EnumIsRight files es kind.Fixed64 = Unit {0}
EnumIsRight files es kind.Fixed32 = Unit {0}
EnumIsRight files es kind.Bool = Unit {0}
EnumIsRight files es kind.Text = Unit {0}
EnumIsRight files es kind.Bytes = Unit {0}
EnumIsRight files es kind.Uint32 = Unit {0}
EnumIsRight files es kind.Sfixed32 = Unit {0}
EnumIsRight files es kind.Sfixed64 = Unit {0}
EnumIsRight files es kind.Sint32 = Unit {0}
EnumIsRight files es kind.Sint64 = Unit {0}

abbrev pub EnumsGoWithSyntax : List FileView → List EnumView → List MessageView → Type 0
EnumsGoWithSyntax files es ms = EachField (λ t f. EnumIsRight files es f.kind) ms

-- an enum has a first value, whose number is 0 but in a file of proto2
abbrev pub BeginsRight : Bool → List (List ℕ × ℤ) → Type 0
BeginsRight two [] = ⊥
BeginsRight true (v ∷ vs) = Unit {0}
BeginsRight false (v ∷ vs) = v.1 ≡ pos 0

abbrev pub EnumsBeginRight : List FileView → List EnumView → Type 0
EnumsBeginRight files es = AllByRecursion (λ e. BeginsRight (is_proto2 files e.file) e.values) es

pub record SyntaxRules (ts : Types) : Type 0 where
  pub fields : FieldsGoWithSyntax ts.files ts.messages
  pub enums : EnumsGoWithSyntax ts.files ts.enums ts.messages
  pub first_values : EnumsBeginRight ts.files ts.enums
