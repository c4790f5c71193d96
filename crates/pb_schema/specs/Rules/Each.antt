-- A fact of each field.
use Rattle.std.specs.Prelude.{List}
use Rattle.std.specs.List.{AllByRecursion}
use Rattle.pb_schema.specs.Types.{FieldView, MessageView}

abbrev pub EachField : (MessageView → FieldView → Type 0) → List MessageView → Type 0
EachField P ms = AllByRecursion (λ t. AllByRecursion (P t) t.fields) ms
