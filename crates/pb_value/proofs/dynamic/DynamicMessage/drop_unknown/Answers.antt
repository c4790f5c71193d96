use Rattle.std.proofs.Common.{sym, subst}
use Rattle.pb_value.specs.View.{body_view}
use Rattle.pb_value.specs.WellFormed.{IsWellFormed}
use Rattle.pb_value.proofs.Edits.{bare_stays}
use Rattle.pb_value.proofs.dynamic.DynamicMessage.drop_unknown.Goals as goal

pub invariant_of-self : goal.invariant_of-self
invariant_of-self c =
    let pool = c.self.inside.pool.now in
    let m = c.self.inside.kind.0 in
    (c.self.invariant.0, subst (IsWellFormed pool m) (sym c.drop_unknown.ensures) (bare_stays pool m (body_view c.self.inside.body) c.self.invariant.1))
