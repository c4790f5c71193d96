use Rattle.std.proofs.Common.{sym, subst}
use Rattle.pb_value.specs.Data.{Message}
use Rattle.pb_value.specs.View.{body_view}
use Rattle.pb_value.specs.WellFormed.{IsWellFormed}
use Rattle.pb_value.proofs.ChangeLemmas.{IsWellFormed-drop_field}
use Rattle.pb_value.proofs.dynamic.DynamicMessage.clear.Goals as goal

pub invariant_of-self : goal.invariant_of-self
invariant_of-self c = (
  c.self.invariant.0,
  subst (λ (v : Message). IsWellFormed c.self.inside.pool.now c.self.inside.kind.0 v) (sym c.clear_field.ensures)
      (IsWellFormed-drop_field c.self.inside.pool.now c.self.inside.kind.0 c.args.number (body_view c.self.inside.body) c.self.invariant.1),
)
