-- Fields whose declarations hold numbers that fit, and texts.
use Rattle.std.specs.Prelude.{◌^◌, ◌<◌, List, length}
use Rattle.std.specs.List.{AllByRecursion}
use Rattle.pb_schema.specs.Types.{FieldView, Types}
use Rattle.pb_schema.specs.Names.{names_of_field}
use Rattle.pb_schema.specs.Rules.{NamesType, NamesOneof, HasKeyKind, AreWords}

pub record IsDeclarable (ts : Types) (f : FieldView) : Type 0 where
  pub number : f.number < 2 ^ 31
  pub kind : NamesType (length ts.messages) (length ts.enums) f.kind
  pub key : HasKeyKind f.shape
  pub member : NamesOneof (2 ^ 31) f.shape
  pub words : AreWords (names_of_field f)

abbrev pub AreDeclarable : Types → List FieldView → Type 0
AreDeclarable ts fs = AllByRecursion (IsDeclarable ts) fs
