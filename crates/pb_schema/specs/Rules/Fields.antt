-- The rules of fields beside others: numbers that differ, types that are seen, oneofs that have members (language specification, proto3,
-- "Fields", "Oneof").
use Rattle.std.specs.Prelude.{◌≡◌, ℕ, ◌<◌, ◌⊎◌, List, [], ◌∷◌, length, map, IfSome, slice_get}
use Rattle.std.specs.List.{AllByRecursion}
use Rattle.pb_schema.specs.declared.types.Kind.{Kind}
use Rattle.pb_schema.specs.declared.types.Kind.TheVariants as kind
use Rattle.pb_schema.specs.declared.types.Shape.{Shape}
use Rattle.pb_schema.specs.declared.types.Shape.TheVariants as shape
use Rattle.pb_schema.specs.Types.{FieldView, MessageView, Types}
use Rattle.pb_schema.specs.Names.{AllDiffer}
use Rattle.pb_schema.specs.Imports.{IsSeen}
use Rattle.pb_schema.specs.Rules.Each.{EachField}
use Rattle.pb_schema.specs.Rules.Shapes.{ShapeRules}

-- in one message
abbrev pub FieldNumbersDiffer : MessageView → Type 0
FieldNumbersDiffer t = AllDiffer (map (λ f. f.number) t.fields)

abbrev pub NumbersDiffer : List MessageView → Type 0
NumbersDiffer ms = AllByRecursion FieldNumbersDiffer ms

-- a type that a kind names is in the file, or in one that the file reaches by imports
abbrev pub TypeIsSeen : Types → ℕ → Kind → Type 0
TypeIsSeen ts file (kind.Enum e) = IfSome (slice_get ts.enums e.0) (λ t. IsSeen ts.files file t.file)
TypeIsSeen ts file (kind.Message m) = IfSome (slice_get ts.messages m.0) (λ t. IsSeen ts.files file t.file)
TypeIsSeen ts file (kind.Group m) = IfSome (slice_get ts.messages m.0) (λ t. IsSeen ts.files file t.file)
TypeIsSeen ts file (kind.ClosedEnum e) = IfSome (slice_get ts.enums e.0) (λ t. IsSeen ts.files file t.file)
TypeIsSeen ts file kind.Double = Unit {0}
TypeIsSeen ts file kind.Float = Unit {0}
TypeIsSeen ts file kind.Int64 = Unit {0}
TypeIsSeen ts file kind.Uint64 = Unit {0}
TypeIsSeen ts file kind.Int32 = Unit {0}
TypeIsSeen ts file kind.Fixed64 = Unit {0}
TypeIsSeen ts file kind.Fixed32 = Unit {0}
TypeIsSeen ts file kind.Bool = Unit {0}
TypeIsSeen ts file kind.Text = Unit {0}
TypeIsSeen ts file kind.Bytes = Unit {0}
TypeIsSeen ts file kind.Uint32 = Unit {0}
TypeIsSeen ts file kind.Sfixed32 = Unit {0}
TypeIsSeen ts file kind.Sfixed64 = Unit {0}
TypeIsSeen ts file kind.Sint32 = Unit {0}
TypeIsSeen ts file kind.Sint64 = Unit {0}

-- the type of each of a message's fields is declared in a file that this one sees
abbrev pub FieldsSeeTypes : Types → ℕ → List FieldView → Type 0
FieldsSeeTypes ts file fs = AllByRecursion (λ f. TypeIsSeen ts file f.kind) fs

abbrev pub TypesAreSeen : Types → Type 0
TypesAreSeen ts = EachField (λ t f. TypeIsSeen ts t.file f.kind) ts.messages

abbrev pub IsMemberOf : ℕ → Shape → Type 0
IsMemberOf o (shape.OneofMember p) = o ≡ p
IsMemberOf o shape.Explicit = ⊥
IsMemberOf o shape.Implicit = ⊥
IsMemberOf o (shape.List _) = ⊥
IsMemberOf o (shape.Map _) = ⊥

abbrev pub HasMember : ℕ → List FieldView → Type 0
HasMember o [] = ⊥
HasMember o (f ∷ fs) = IsMemberOf o f.shape ⊎ HasMember o fs

abbrev pub EachOneofHasMember : MessageView → Type 0
EachOneofHasMember t = (o : ℕ) → o < length t.oneofs → HasMember o t.fields

abbrev pub OneofsHaveMembers : List MessageView → Type 0
OneofsHaveMembers ms = AllByRecursion EachOneofHasMember ms

pub record FieldRules (ts : Types) : Type 0 where
  pub numbers_differ : NumbersDiffer ts.messages
  pub types_seen : TypesAreSeen ts
  pub oneofs : OneofsHaveMembers ts.messages
  pub shapes : ShapeRules ts.messages
