use Rattle.std.proofs.Common.{sym, subst}
use Rattle.pb_value.specs.View.{body_view, key_view}
use Rattle.pb_value.specs.WellFormed.{IsWellFormed}
use Rattle.pb_value.proofs.Removed.{removed_stays}
use Rattle.pb_value.proofs.dynamic.DynamicMessage.remove.Goals as goal

pub invariant_of-self : goal.invariant_of-self
invariant_of-self c =
    let pool = c.self.inside.pool.now in
    let m = c.self.inside.kind.0 in
    (c.self.invariant.0, subst (IsWellFormed pool m) (sym c.remove_entry.ensures.left) (removed_stays pool m c.args.number (key_view c.args.key.now) (body_view c.self.inside.body) c.self.invariant.1))
