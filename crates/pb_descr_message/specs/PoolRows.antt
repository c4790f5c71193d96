-- The fields and messages that the rows of the fixed pool's table describe.
use Rattle.std.specs.Prelude.{ℕ, List, [], Option, map}
use Rattle.std.specs.Borrow.{Bor}
use Rattle.pb_schema.specs.declared.types.Kind.{Kind}
use Rattle.pb_schema.specs.declared.types.Shape.{Shape}
use Rattle.pb_schema.specs.declared.types.MessageId.{MessageId}
use Rattle.pb_schema.specs.Types.{FieldView, MessageView}
use Rattle.pb_schema.specs.View.{parent_view}

abbrev pub field_row_view : ℕ × Bor (List ℕ) × Kind × Shape → FieldView
field_row_view r = record { name = r.1.now; number = r.0; kind = r.2; shape = r.3 }

abbrev pub type_row_view : Bor (List ℕ) × Option MessageId × Bor (List (ℕ × Bor (List ℕ) × Kind × Shape)) → MessageView
type_row_view r = record { name = r.0.now; file = 0; parent = parent_view r.1; fields = map field_row_view r.2.now; oneofs = [] }
