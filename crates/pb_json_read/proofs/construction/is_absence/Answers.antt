use Rattle.std.proofs.Common.{ℕ, ap, ◌∙◌}
use Rattle.std.specs.Prelude.{◌==◌}
use Rattle.pb_value.proofs.Views.{is_absence-List, is_absence-Map}
use Rattle.pb_json_read.proofs.construction.is_absence.Goals as goal

pub returns-in-List : goal.returns-in-List
returns-in-List c = rw (c.in-List.is) (is_absence-List c.in-List.values c.is_empty.result c.args.shape (c.is_empty.ensures ∙ ap (λ (n : ℕ). n == 0) c.in-List.values.ok.0))

pub returns-in-Map : goal.returns-in-Map
returns-in-Map c = rw (c.in-Map.is) (is_absence-Map c.in-Map.entries c.is_empty-in-Map.result c.args.shape c.is_empty-in-Map.ensures)
